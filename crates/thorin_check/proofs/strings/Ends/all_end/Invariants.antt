use Rattle.{dwp_bytes.specs.StringOffsets.entry_in, thorin_check.specs.Ends.is_inside}
use Rattle.std.proofs.Common.{true, ℕ, ◌<◌, ◌≡◌}
use Rattle.thorin_check.proofs.strings.Ends.all_end.Given as goal

-- the offsets so far are inside
abbrev pub invariant-loop-i : goal.invariant-loop-i
invariant-loop-i l = (k : ℕ) → k < l.i
    → is_inside l.self (entry_in l.offsets.order l.offsets.encoding l.offsets.offsets.now k) ≡ true
