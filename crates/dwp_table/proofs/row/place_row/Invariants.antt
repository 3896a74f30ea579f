use Rattle.std.proofs.Common.{◌≡◌, ℕ, ◌<◌, length, get_or}
use Rattle.dwp_table.specs.Probing.{place}
use Rattle.dwp_table.proofs.row.place_row.Given as goal

abbrev pub invariant-loop-i : goal.invariant-loop-i
invariant-loop-i l = record {
  at_place : l.at ≡ place l.size l.x l.i;
  within : l.at < l.size;
  same : l.slots ≡ l.initial.slots;
  earlier : (j : ℕ) → j < l.i → 0 < get_or l.slots (place (length l.slots) l.x j) 0;
}
