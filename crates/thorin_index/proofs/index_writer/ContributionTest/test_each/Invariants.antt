use Rattle.thorin_index.specs.EntryTests.{contributions_test, each, each_contribution, test_of}
use Rattle.{dwp_table.specs.Columns.contribution_kinds, thorin_index.specs.Rows.blank}
use Rattle.std.proofs.Common.{drop, get_or, ◌≡◌}
use Rattle.thorin_index.proofs.index_writer.ContributionTest.test_each.Given as goal

-- what is left has the first error of all
abbrev pub invariant-loop-position : goal.invariant-loop-position
invariant-loop-position l = each (contributions_test (test_of l.self)) (drop l.position l.rows)
    ≡ each (contributions_test (test_of l.self)) l.rows

-- and of the row
abbrev pub invariant-loop-kind : goal.invariant-loop-kind
invariant-loop-kind l = each_contribution (test_of l.self) (drop l.kind-index contribution_kinds)
    (get_or l.rows l.position blank)
    ≡ contributions_test (test_of l.self) (get_or l.rows l.position blank)
