use Rattle.{dwp_table.specs.Columns.contribution_kinds, thorin_check.specs.Apart.AreApart}
use Rattle.std.proofs.Common.{false, take, ◌≡◌}
use Rattle.thorin_check.proofs.overlaps.Overlaps.find.Given as goal

-- no ranges of the sections so far clash
abbrev pub invariant-loop-kind : goal.invariant-loop-kind
invariant-loop-kind l =
    l.clash ≡ false → AreApart l.pack l.entries (take l.kind-index contribution_kinds)
