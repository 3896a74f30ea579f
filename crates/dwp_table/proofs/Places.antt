-- The places of an identifier.
use Rattle.std.proofs.Common.{ap, arith, sym, ℕ, ◌%◌, ◌*◌, ◌+◌, ◌-◌, ◌/◌, ◌<◌, ◌^◌, ◌∙◌, ◌≡◌}
use Rattle.std.specs.{Int.is_power_of_two, Prelude.bit_and, Prelude.bit_or, Prelude.IsTrue}
use Rattle.std.proofs.lemmas.Nat.{and_mask, pow_pos}
use Rattle.std.proofs.Math.Nat.{mod-add-mod, mod-lt}
use Rattle.dwp_table.specs.Probing.{place, step}
use Rattle.dwp_table.proofs.Numbers.{exponent, odd-or_one, one_slot, OneToOne}

pub positive : (size : ℕ) → IsTrue (is_power_of_two size) → 0 < size
positive size power = let k = exponent size power in omega (arith, k.1, pow_pos k.0)

pub place-lt : (size x i : ℕ) → IsTrue (is_power_of_two size) → place size x i < size
unfolding place
place-lt size x i power = mod-lt _ (positive size power)

pub place_next : (size x i : ℕ) → IsTrue (is_power_of_two size) → place size x (i + 1) ≡ bit_and
    (place size x i + step size x) (size - 1)
unfolding place
place_next size x i power =
    let start = bit_and x (size - 1) in
    let s = step size x in
    let k = exponent size power in
    let more : start + (i + 1) * s ≡ (start + i * s) + s = omega arith in
    ap (λ n. n % size) more ∙ sym (mod-add-mod (start + i * s) size s)
    ∙ rw k.1 (sym (and_mask _ k.0))

pub places_apart : (size x : ℕ) → IsTrue (is_power_of_two size) → OneToOne (place size x) size
unfolding place step
places_apart size x power = one_slot size _ _ power (odd-or_one _)
