use Rattle.std.proofs.Common.{ap, arith, List, map, sym, ◌+◌, ◌-◌, ◌∙◌}
use Rattle.std.proofs.{lemmas.Bool.Decides.nat_tests, lemmas.Result.err_from_is_err_and}
use Rattle.dwp_archive.specs.{Entries.Member, Members.members_from, View.entry, View.member}
use Rattle.dwp_archive.proofs.Entering.{behind, entries_done, entries_end, entry_fails, entry_taken}
use Rattle.dwp_archive.proofs.reading.members_in.Goals as goal

pub returns-then-is_empty : goal.returns-then-is_empty
returns-then-is_empty c =
    sym c.loop.invariant ∙ entries_end c.args.most c.loop.counter c.loop.names.now c.loop.rest.now
    (map member c.loop.members.items) (grind (arith, nat_tests))

pub returns-in_err-entry : goal.returns-in_err-entry
returns-in_err-entry c =
    let p = err_from_is_err_and c.from_residual.result c.from_residual.ensures.1 in
    rw (p.1, p.2) (λ h. sym c.loop.invariant ∙ entry_fails c.args.most c.loop.counter
    c.loop.names.now c.loop.rest.now (map member c.loop.members.items) _ c.loop-test.true
    (grind (arith, nat_tests)) c.in_err-entry.ensures)

pub loop-preserved : goal.loop-preserved
loop-preserved c =
    let left = members_from (c.args.most - (c.loop.counter + 1)) c.in_ok-entry.entry.names.now
    c.in_ok-entry.entry.rest.now in
    ap (λ (front : List Member). behind front left) c.in_ok-add.ensures
    ∙ sym (entry_taken c.args.most c.loop.counter c.loop.names.now c.loop.rest.now
    (map member c.loop.members.items) (entry c.in_ok-entry.entry) c.loop-test.true
    (grind (arith, nat_tests)) c.in_ok-entry.ensures)
    ∙ c.loop.invariant

pub returns : goal.returns
returns c =
    sym c.loop.invariant ∙ entries_done c.args.most c.loop.counter c.loop.names.now c.loop.rest.now
    (map member c.loop.members.items) (omega arith)
