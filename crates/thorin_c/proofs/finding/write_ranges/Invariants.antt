use Rattle.{dwp_table.specs.Columns.contribution_kinds, thorin_c.specs.Finding.range_of}
use Rattle.std.proofs.Common.{length, map, take, ◌≡◌}
use Rattle.dwp_index.specs.Index.{range_in}
use Rattle.thorin_c.proofs.finding.write_ranges.Given as goal

abbrev pub invariant-loop-i : goal.invariant-loop-i
invariant-loop-i l =
    (length l.ranges ≡ 10) × (take l.i l.ranges ≡ map (λ kind. range_of (range_in l.row kind))
    (take l.i contribution_kinds))
