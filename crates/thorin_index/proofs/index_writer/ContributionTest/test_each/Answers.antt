use Rattle.{dwp_table.specs.Columns.contribution_kinds, thorin_index.specs.Entries.contribution_to}
use Rattle.thorin_index.specs.{EntryTests.contributions_test, EntryTests.test_of, Rows.blank}
use Rattle.thorin_index.proofs.Held.{each_passed, next_fails, next_passes}
use Rattle.std.proofs.lemmas.{List.drop_all, Result.err_from_is_err_and}
use Rattle.std.proofs.Common.{[], arith, drop, get_or, sym, ◌∙◌, ◌≡◌}
use Rattle.thorin_index.proofs.index_writer.ContributionTest.test_each.Goals as goal

pub returns-in_err-test-clause-exact : goal.returns-in_err-test-clause-exact
returns-in_err-test-clause-exact c =
    let entry = get_or c.args.rows.now c.loop-position.position blank in
    let p = err_from_is_err_and c.from_residual.result c.from_residual.ensures.1 in
    rw (p.1, p.2) (λ other. next_fails (contributions_test (test_of c.args.self)) c.args.rows.now
    c.loop-position.position blank _
    (omega (arith, c.loop-position-test.true, c.len-position-end.ensures)) c.loop-position.invariant
    (next_fails (λ kind. test_of c.args.self kind (contribution_to kind entry))
    contribution_kinds c.loop-kind.kind-index _ _ c.loop-kind-test.true c.loop-kind.invariant
    (rw c.contribution.ensures at (c.in_err-test.ensures other))))

pub loop-kind-preserved : goal.loop-kind-preserved
loop-kind-preserved c =
    let entry = get_or c.args.rows.now c.loop-position.position blank in
    sym (next_passes (λ kind. test_of c.args.self kind (contribution_to kind entry))
    contribution_kinds c.loop-kind.kind-index _ c.loop-kind-test.true
    (rw c.contribution.ensures at c.in_ok-test.ensures)) ∙ c.loop-kind.invariant

pub returns-clause-passed : goal.returns-clause-passed
returns-clause-passed c =
    let left : drop c.loop-position.position c.args.rows.now ≡ [] =
    drop_all c.loop-position.position c.args.rows.now (omega arith) in
    each_passed (contributions_test (test_of c.args.self)) c.args.rows.now
    (sym (rw left at c.loop-position.invariant))
