use Rattle.std.proofs.Common.{◌≡◌, ◌-◌, ◌≤◌, ◌^◌, ◌⊎◌, ℕ, suc}
use Rattle.dwp_table.proofs.slots.slot_count.Given as goal

abbrev pub invariant-loop-size : goal.invariant-loop-size
invariant-loop-size l = record {
  power : (k : ℕ) × (l.size ≡ 2 ^ suc k);
  least : (l.size ≡ 2) ⊎ (l.size ≤ l.wanted);
}

abbrev pub decreases-loop-size : goal.decreases-loop-size
decreases-loop-size l = 2 ^ 33 - l.size
