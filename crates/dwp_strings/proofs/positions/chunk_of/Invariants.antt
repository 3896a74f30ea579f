use Rattle.std.proofs.Common.{length, slice_index, ◌-◌, ◌<◌, ◌≤◌}
use Rattle.dwp_strings.proofs.positions.chunk_of.Given as goal

abbrev pub invariant-loop-high : goal.invariant-loop-high
invariant-loop-high l = record {
  ordered : l.low < l.high;
  within : l.high ≤ length l.starts;
  low : slice_index l.starts l.low ≤ l.rank;
  high : l.high < length l.starts → l.rank < slice_index l.starts l.high;
}

abbrev pub decreases-loop-high : goal.decreases-loop-high
decreases-loop-high l = l.high - l.low
