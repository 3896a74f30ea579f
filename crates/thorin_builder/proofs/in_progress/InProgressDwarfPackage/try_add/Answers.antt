use Rattle.{std.proofs.Common.refl, thorin_builder.proofs.Inputs.extends_by}
use Rattle.thorin_builder.proofs.in_progress.InProgressDwarfPackage.try_add.Goals as goal

pub returns-in_err-parts-clause-extends : goal.returns-in_err-parts-clause-extends
returns-in_err-parts-clause-extends c = extends_by _ _ refl refl refl c.parts_of.ensures.kept

pub returns-then-not-source-clause-extends : goal.returns-then-not-source-clause-extends
returns-then-not-source-clause-extends c = extends_by _ _ refl refl refl c.parts_of.ensures.kept

pub returns-in_err-new-clause-extends : goal.returns-in_err-new-clause-extends
returns-in_err-new-clause-extends c = extends_by _ _ refl refl refl c.parts_of.ensures.kept

pub returns-in-Err-clause-extends : goal.returns-in-Err-clause-extends
returns-in-Err-clause-extends c =
    c.add_all-added.ensures.extends _ (extends_by _ _ refl refl refl c.parts_of.ensures.kept)

pub returns-in-Ok-clause-extends : goal.returns-in-Ok-clause-extends
returns-in-Ok-clause-extends c =
    c.add_all-added.ensures.extends _ (extends_by _ _ refl refl refl c.parts_of.ensures.kept)
