use Rattle.{std.specs.List.AllAdjacentBelow, thorin_check.specs.Apart.IsApart}
use Rattle.thorin_check.proofs.overlaps.are_apart.Given as goal

-- each range so far is apart from the one before
abbrev pub invariant-loop-i : goal.invariant-loop-i
invariant-loop-i l = AllAdjacentBelow IsApart l.ranges l.i
