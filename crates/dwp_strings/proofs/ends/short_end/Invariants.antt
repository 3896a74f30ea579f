use Rattle.std.proofs.Common.{length, slice_index, ℕ, ◌*◌, ◌<◌, ◌≢◌, ◌≤◌}
use Rattle.dwp_strings.proofs.ends.short_end.Given as goal

abbrev pub invariant-loop-round : goal.invariant-loop-round
invariant-loop-round l = record {
  within : l.round * 64 ≤ length l.bytes;
  some : (k : ℕ) → k < l.round * 64 → slice_index l.bytes k ≢ 0;
}
