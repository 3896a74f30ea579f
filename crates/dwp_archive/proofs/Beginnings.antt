-- The beginning of a name is read from the beginning of the bytes that it stands in.
use Rattle.dwp_archive.specs.Names.{long_name, own_name, without_slash}
use Rattle.std.proofs.Common.{ap, nat_le, [], ℕ, ◌==◌, ◌≤◌}
use Rattle.std.proofs.Common.{arith, Bool, length, length-take-le, slice_index, take-take, take_all}
use Rattle.std.proofs.Common.{false, List, refl, suc, sym, take, zero, ◌+◌, ◌-◌, ◌<◌, ◌∙◌, ◌∷◌, ◌≡◌}
use Rattle.std.specs.List.{before_first, position_or_len}
use Rattle.{dwp_base.proofs.Bools.by-bool, std.proofs.lemmas.Bool.Decides.nat_tests}

-- what stands in front of the first byte of a kind
one_more : (p : ℕ → Bool) (x : ℕ) (xs : List ℕ) → p x ≡ false
    → before_first p (x ∷ xs) ≡ x ∷ before_first p xs
one_more p x xs e =
    let one : 1 + position_or_len p xs ≡ suc (position_or_len p xs) = omega arith in
    rw (e, one) refl

window : (p : ℕ → Bool) (k : ℕ) (xs : List ℕ)
    → before_first p (take k xs) ≡ take k (before_first p xs)
window p zero xs = refl
window p (suc k) [] = refl
window p (suc k) (x ∷ xs) = by-bool _ (p x)
    (λ e. rw e refl)
    (λ e. one_more p x (take k xs) e
    ∙ ap (λ (front : List ℕ). x ∷ front) (window p k xs)
    ∙ sym (ap (take (suc k)) (one_more p x xs e)))

pub own_begins : (most : ℕ) (bytes : List ℕ)
    → own_name (take most bytes) ≡ take most (own_name bytes)
unfolding own_name
own_begins most bytes = window (λ b. b == 0) most bytes

-- a line that is longer has the same beginning without a slash at its end
shortened : (most : ℕ) (line : List ℕ) → most < length line
    → take most (without_slash line) ≡ take most line
shortened most line long = by-bool _ (slice_index line (length line - 1) == 47)
    (λ e. rw e (take-take most (length line - 1) line (omega arith)))
    (λ e. rw e refl)

by_length : (most : ℕ) (line : List ℕ)
    → take most (without_slash (take (most + 1) line)) ≡ take most (without_slash line)
by_length most line = by-bool _ (nat_le (length line) (most + 1))
    (λ e. let fits : length line ≤ most + 1 = grind (arith, nat_tests) in
    rw (take_all (most + 1) line fits) refl)
    (λ e. let long : most + 1 < length line = grind (arith, nat_tests) in
    let same : length (take (most + 1) line) ≡ most + 1 =
    length-take-le (most + 1) line (omega arith) in
    shortened most (take (most + 1) line) (omega arith)
    ∙ take-take most (most + 1) line (omega arith)
    ∙ sym (shortened most line (omega arith)))

pub long_begins : (most : ℕ) (bytes : List ℕ)
    → take most (long_name (take (most + 1) bytes)) ≡ take most (long_name bytes)
unfolding long_name
long_begins most bytes =
    rw (window (λ b. b == 10) (most + 1) bytes) (by_length most (before_first (λ b. b == 10) bytes))
