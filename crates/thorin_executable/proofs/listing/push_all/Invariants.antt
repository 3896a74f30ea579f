use Rattle.std.proofs.Common.{length, map, ◌≡◌}
use Rattle.thorin_executable.{proofs.NamedSteps.put, specs.View.named}
use Rattle.thorin_executable.proofs.listing.push_all.Given as goal

-- those listed and those that are left are all
abbrev pub invariant-loop-skeleton : goal.invariant-loop-skeleton
invariant-loop-skeleton l = put (map named l.units.items) l.left ≡ l.fn.left

abbrev pub decreases-loop-skeleton : goal.decreases-loop-skeleton
decreases-loop-skeleton l = length l.left.0
