use Rattle.std.proofs.Common.{slice_index, ℕ, ◌+◌, ◌<◌, ◌≡◌, ◌≤◌}
use Rattle.dwp_strings.proofs.positions.raise.Given as goal

abbrev pub invariant-loop-i : goal.invariant-loop-i
invariant-loop-i l = record {
  before : (k : ℕ) → k < l.from → slice_index l.starts k ≡ slice_index l.initial.starts k;
  raised : (k : ℕ) → l.from ≤ k → k < l.i
      → slice_index l.starts k ≡ slice_index l.initial.starts k + 1;
  behind : (k : ℕ) → l.i ≤ k → slice_index l.starts k ≡ slice_index l.initial.starts k;
}
