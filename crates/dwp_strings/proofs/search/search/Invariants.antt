use Rattle.dwp_strings.{proofs.Named.IsHalved, specs.Strings.IsBefore}
use Rattle.std.proofs.Common.{length, slice_index, ℕ, ◌-◌, ◌<◌, ◌≤◌}
use Rattle.dwp_bytes.specs.StringOffsets.{string_from}
use Rattle.dwp_strings.proofs.search.search.Given as goal

abbrev pub invariant-loop-low : goal.invariant-loop-low
invariant-loop-low l = record {
  ordered : l.low ≤ l.high;
  within : l.high ≤ length l.positions;
  halved : IsHalved (length l.positions) l.compared (l.high - l.low);
  before : (k : ℕ) → k < l.low
      → IsBefore (string_from l.bytes (slice_index l.positions k)) l.string;
  behind : (k : ℕ) → l.high ≤ k → k < length l.positions
      → IsBefore l.string (string_from l.bytes (slice_index l.positions k));
}

abbrev pub decreases-loop-low : goal.decreases-loop-low
decreases-loop-low l = l.high - l.low
