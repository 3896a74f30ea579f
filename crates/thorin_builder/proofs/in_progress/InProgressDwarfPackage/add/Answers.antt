use Rattle.thorin_builder.proofs.in_progress.InProgressDwarfPackage.add.Goals as goal

pub returns-clause-err : goal.returns-clause-err
returns-clause-err c = c.restore.ensures _ c.try_add.ensures.extends c.in_ok-mark.ensures.mark
