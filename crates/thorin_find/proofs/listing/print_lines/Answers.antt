use Rattle.thorin_find.proofs.{Listed.begun, Listed.begun_next, Sought.exit_is}
use Rattle.{std.proofs.Common.drop, std.proofs.Common.◌+◌, thorin_print.proofs.Lines.drop_next}
use Rattle.thorin_print.specs.declared.output.Failure.TheVariants as failures
use Rattle.thorin_find.proofs.listing.print_lines.Goals as goal

pub returns-in_err-put_slot-clause-part : goal.returns-in_err-put_slot-clause-part
returns-in_err-put_slot-clause-part g c =
    rw (exit_is c.from_residual.ensures.1)
    (begun _ _ _ _ failures.Memory _ _ _ tt c.loop-entry.invariant)

pub returns-in_err-print_much-clause-part : goal.returns-in_err-print_much-clause-part
returns-in_err-print_much-clause-part g c =
    let i = c.loop-entry.entry-index in
    rw (exit_is c.from_residual-in_err-print_much.ensures.1)
    (begun_next _ _ _ _ _ (drop (i + 1) c.args.entries.now) _ _ _ _ _
    (drop_next c.args.entries.now i _ c.loop-entry-test.true) c.in_ok-put_slot.ensures
    c.loop-entry.invariant _ _ c.in_err-print_much.ensures.part)
