use Rattle.thorin_check.proofs.Packages.{HasFirst}
use Rattle.thorin_check.proofs.overlaps.sorted_ranges.Given as goal

-- the ranges of the slots so far
abbrev pub invariant-loop-entry : goal.invariant-loop-entry
invariant-loop-entry l = HasFirst l.pack l.entries l.kind l.entry l.ranges.items
