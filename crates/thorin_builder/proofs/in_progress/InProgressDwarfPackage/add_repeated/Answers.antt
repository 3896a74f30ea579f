use Rattle.thorin_builder.proofs.Inputs.{extends-refl, signatures-kept, still-extends}
use Rattle.{std.proofs.Common.rules, thorin_join.proofs.Terms.take-length}
use Rattle.thorin_builder.proofs.in_progress.InProgressDwarfPackage.add_repeated.Goals as goal

pub returns-in-Err-clause-err : goal.returns-in-Err-clause-err
returns-in-Err-clause-err c =
    let extends = still-extends (extends-refl _) c.put_each.ensures.grown (take-length _)
    (signatures-kept c.args.self.now.differing.items c.args.again.now.differing.items _
    (search (rules, c.in_ok-extend_from_slice.ensures.items))) in
    c.restore.ensures _ extends c.in_ok-mark.ensures.mark

pub returns-clause-extends : goal.returns-clause-extends
returns-clause-extends c = still-extends (extends-refl _) c.put_each.ensures.grown (take-length _)
    (signatures-kept c.args.self.now.differing.items c.args.again.now.differing.items _
    (search (rules, c.in_ok-extend_from_slice.ensures.items)))
