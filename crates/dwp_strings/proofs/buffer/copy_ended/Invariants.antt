use Rattle.std.proofs.Common.{slice_index, ℕ, ◌-◌, ◌<◌, ◌≢◌}
use Rattle.dwp_strings.specs.Ends.{IsCopied}
use Rattle.dwp_strings.proofs.buffer.copy_ended.Given as goal

abbrev pub invariant-loop-at : goal.invariant-loop-at
invariant-loop-at l = record {
  some : (k : ℕ) → k < l.at → slice_index l.bytes k ≢ 0;
  copied : (k : ℕ) → k < l.at → IsCopied l.bytes l.room k;
  ended : IsCopied l.bytes l.room l.end;
}

abbrev pub decreases-loop-at : goal.decreases-loop-at
decreases-loop-at l = l.last - l.at
