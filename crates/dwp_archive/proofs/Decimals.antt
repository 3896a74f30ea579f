-- Digits taken one after the other.
use Rattle.std.proofs.Common.{Bool, false, true, ℕ, ◌*◌, ◌+◌, ◌-◌, ◌<◌, ◌==◌, ◌^◌, ◌∙◌, ◌≡◌, ◌≤◌}
use Rattle.std.proofs.Common.{arith, cond, drop, get_or, length, List, None, Option, pow-add, Some}
use Rattle.std.proofs.{Common.refl, lemmas.Bool.Decides.nat_tests, Math.Nat.pow-le-pow_right}
use Rattle.std.proofs.{Common.ap, Common.sym, lemmas.List.drop_all, lemmas.List.drop_more}
use Rattle.std.specs.{Bool.then_some, List.list_all}
use Rattle.dwp_archive.specs.Headers.{decimal_from, is_digit}

abbrev Number : Type 0
Number = Option ℕ

module _ (field : List ℕ) (n i : ℕ) where
  pub decimal_step : i < length field → is_digit (get_or field i 0) ≡ true
      → decimal_from n (drop i field)
      ≡ decimal_from (10 * n + (get_or field i 0 - 48)) (drop (i + 1) field)
  unfolding decimal_from
  decimal_step h d = rw (drop_more field i 0 h, d) refl

  decimal_stop : i < length field → is_digit (get_or field i 0) ≡ false
      → decimal_from n (drop i field)
      ≡ cond (list_all (λ b. b == 32) (drop i field)) (Some n) None
  unfolding decimal_from
  decimal_stop h d = rw (drop_more field i 0 h, d) refl

  pub decimal_end : length field ≤ i → decimal_from n (drop i field) ≡ Some n
  unfolding decimal_from
  decimal_end h = ap (decimal_from n) (drop_all i field h)

some_if : (b : Bool) (n : ℕ) → then_some b n ≡ cond {A = Number} b (Some n) None
some_if true n = refl
some_if false n = refl

-- where a number ends, in front of blanks or of something else
pub stops : (field : List ℕ) (n i : ℕ) (all : Number) (blank : Bool) → i < length field
    → is_digit (get_or field i 0) ≡ false → blank ≡ list_all (λ b. b == 32) (drop i field)
    → decimal_from n (drop i field) ≡ all → then_some blank n ≡ all
stops field n i all blank h d e v = rw e (some_if _ n ∙ sym (decimal_stop field n i h d) ∙ v)

pub digit_small : (b : ℕ) → is_digit b ≡ true → b - 48 < 10
digit_small b h = grind (arith, nat_tests)

-- sixteen digits fit
pub digits_fit : (n i d : ℕ) → n < 10 ^ i → i < 16 → d < 10 → 10 * n + d < 2 ^ 64
digits_fit n i d small few below =
    let most : 10 ^ i ≤ 10 ^ 15 = pow-le-pow_right {n = 10} (omega arith) {i = i} {j = 15}
    (omega arith) in
    omega (arith, most)

pub digits_grow : (n i d : ℕ) → n < 10 ^ i → d < 10 → 10 * n + d < 10 ^ (i + 1)
digits_grow n i d small below = omega (arith, pow-add 10 i 1)
