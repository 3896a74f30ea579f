use Rattle.std.proofs.Common.{length, ◌%◌, ◌-◌, ◌<◌, ◌≡◌}
use Rattle.dwp_strings.proofs.Hashed.{mixed_to}
use Rattle.dwp_strings.proofs.hash.long_hash.Given as goal

abbrev pub invariant-loop-at : goal.invariant-loop-at
invariant-loop-at l = record {
  whole : l.at % 16 ≡ 0;
  within : l.at < length l.bytes;
  so_far : l.state ≡ mixed_to l.bytes l.at;
}

abbrev pub decreases-loop-at : goal.decreases-loop-at
decreases-loop-at l = l.last - l.at
