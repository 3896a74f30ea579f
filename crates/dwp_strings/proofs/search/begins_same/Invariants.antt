use Rattle.std.proofs.Common.{slice_index, ℕ, ◌-◌, ◌<◌, ◌≡◌}
use Rattle.dwp_strings.proofs.search.begins_same.Given as goal

abbrev pub invariant-loop-at : goal.invariant-loop-at
invariant-loop-at l = (k : ℕ) → k < l.at → slice_index l.bytes k ≡ slice_index l.other k

abbrev pub decreases-loop-at : goal.decreases-loop-at
decreases-loop-at l = l.last - l.at
