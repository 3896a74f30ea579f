-- What `{:016x}` and `{:08x}` write.
use Rattle.std.proofs.Common.{◌≡◌, ℕ, ◌-◌, ◌^◌, [], false, append-nil}
use Rattle.std.proofs.Math.Nat.{sub-zero}
use Rattle.std.specs.Fmt.{padded_integral, format_spec, char_count, digits}
use Rattle.thorin_print.specs.Lines.{hex8, hex16}

-- zeros in front, up to sixteen digits
pub hex16_written : (n : ℕ) → padded_integral (format_spec 32 0 4 16 (2 ^ 64 - 1)) false []
    (digits 16 false n) ≡ hex16 n
unfolding padded_integral char_count hex16
hex16_written n = simp (sub-zero, append-nil)

pub hex8_written : (n : ℕ) → padded_integral (format_spec 32 0 4 8 (2 ^ 64 - 1)) false []
    (digits 16 false n) ≡ hex8 n
unfolding padded_integral char_count hex8
hex8_written n = simp (sub-zero, append-nil)
