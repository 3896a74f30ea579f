-- What `{:08x}` writes.
use Rattle.std.proofs.Common.{false, [], ℕ, ◌-◌, ◌^◌, ◌≡◌}
use Rattle.std.proofs.{lemmas.List.append-nil, Math.Nat.sub-zero}
use Rattle.std.specs.Fmt.{char_count, digits, format_spec, padded_integral}
use Rattle.thorin_errors.specs.Text.{hex8}

-- zeros in front, up to eight digits
pub hex8_written : (n : ℕ) → padded_integral (format_spec 32 0 4 8 (2 ^ 64 - 1)) false []
    (digits 16 false n) ≡ hex8 n
unfolding hex8 padded_integral char_count
hex8_written n = simp (sub-zero, append-nil)
