use Rattle.thorin_builder.proofs.Inputs.{signatures, signatures-kept, still-extends}
use Rattle.thorin_join.{proofs.Terms.take-length, specs.State.with_all}
use Rattle.std.proofs.Common.{rules}
use Rattle.thorin_builder.proofs.in_progress.InProgressDwarfPackage.add_all.Goals as goal

pub returns-in_err-put_parts-clause-extends : goal.returns-in_err-put_parts-clause-extends
returns-in_err-put_parts-clause-extends c before h =
    still-extends h c.put_parts.ensures.grown (take-length _) (take-length _)

pub returns-in_err-extend_from_slice-clause-extends :
    goal.returns-in_err-extend_from_slice-clause-extends
returns-in_err-extend_from_slice-clause-extends c before h =
    rw c.in_err-extend_from_slice.ensures.items
    (still-extends h c.put_parts.ensures.grown (take-length _) (take-length _))

pub returns-clause-extends : goal.returns-clause-extends
returns-clause-extends c before h = c.append_units.ensures.extends before (still-extends
    h c.put_parts.ensures.grown (take-length _) (signatures-kept c.args.self.now.differing.items
    c.args.new.now.differing.items c.extend_from_slice.new.self.items
    (search (rules, c.in_ok-extend_from_slice.ensures.items, c.deref.ensures))))

pub returns-clause-meaning : goal.returns-clause-meaning
unfolding with_all
returns-clause-meaning c =
    let more = signatures c.args.self.now.differing.items c.args.new.now.differing.items
    c.extend_from_slice.new.self.items
    (search (rules, c.in_ok-extend_from_slice.ensures.items, c.deref.ensures)) in
    grind (rules, more, c.in_ok-put_parts.ensures.contents, c.append_units.ensures.meaning)
