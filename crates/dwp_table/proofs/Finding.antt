-- The first number of a range that passes a test.
use Rattle.std.proofs.Common.{Bool, false, inl, suc, true, zero, ℕ, ◌+◌, ◌<◌, ◌∙◌, ◌≡◌, ◌≤◌, ◌⊎◌}
use Rattle.std.proofs.Common.{ap, arith, find, inr, None, refl, Some}
use Rattle.std.{proofs.Math.Decide.dec_lt, specs.List.range_with_len}
use Rattle.dwp_base.proofs.Bools.{by-bool}

-- what a number is that was found
pub record IsFirst (p : ℕ → Bool) (n i : ℕ) : Type 0 where
  pub within : i < n
  pub here : p i ≡ true
  pub earlier : (j : ℕ) → j < i → p j ≡ false

-- there is a first number that passes, or none does
pub first_or_none : (p : ℕ → Bool) (n : ℕ) → ((i : ℕ) × IsFirst p n i)
    ⊎ ((j : ℕ) → j < n → p j ≡ false)
first_or_none p zero = inr (λ j h. absurd (omega arith))
first_or_none p (suc n) = elim (first_or_none p n) [
  | inl w ↦ inl (
    w.0,
    record { within = omega (arith, w.1.within); here = w.1.here; earlier = w.1.earlier },
  )
  | inr none ↦ by-bool _ (p n)
      (λ e. inl (n, record { within = omega arith; here = e; earlier = none }))
      (λ e. inr (λ j h. elim (dec_lt j n) [
        | yes q ↦ none j q
        | no q ↦ let last : j ≡ n = omega arith in ap p last ∙ e
      ]))
]

-- the same, looked for among the n numbers from a on
pub find_first : (p : ℕ → Bool) (a n end i : ℕ) → a + n ≡ end → a ≤ i → IsFirst p end i
    → find p (range_with_len a n) ≡ Some i
find_first p a zero end i e low first = absurd (omega (arith, first.within))
find_first p a (suc n) end i e low first = elim (dec_lt a i) [
  | yes more ↦ rw (first.earlier a more) (find_first p (a + 1) n end i (omega arith) (omega arith)
      first)
  | no last ↦ let same : a ≡ i = omega arith in rw (same, first.here) refl
]

pub find_none : (p : ℕ → Bool) (a n end : ℕ) → a + n ≡ end → ((j : ℕ) → j < end → p j ≡ false)
    → find p (range_with_len a n) ≡ None
find_none p a zero end e none = refl
find_none p a (suc n) end e none = rw (none a (omega arith)) (find_none p (a + 1) n end
    (omega arith) none)
