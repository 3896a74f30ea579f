use Rattle.std.proofs.Common.{◌≡◌, ◌≤◌, ◌+◌, ◌-◌, ◌++◌, take, length, vec_capacity, vec_len}
use Rattle.dwp_elf.proofs.object.append_by_pieces.Given as goal

abbrev pub invariant-loop-at : goal.invariant-loop-at
invariant-loop-at l = record {
  within : l.at ≤ length l.bytes;
  so_far : l.out.items ≡ l.initial.out.items ++ take l.at l.bytes;
  room : vec_len l.out + (length l.bytes - l.at) ≤ vec_capacity l.out;
}

abbrev pub decreases-loop-at : goal.decreases-loop-at
decreases-loop-at l = length l.bytes - l.at
