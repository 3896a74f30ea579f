-- The first item of a list that passes a test, looked for one after the other.
use Rattle.memchr.specs.Find.{is_byte, IsFirstByte}
use Rattle.std.proofs.Common.{ap, Bool, cond, drop, List, None, slice_get, ◌+◌, ◌<◌, ◌==◌, ◌∷◌, ◌≡◌}
use Rattle.std.proofs.Common.{arith, false, length, Option, Some, suc, true, zero, [], ℕ, ◌∙◌, ◌≤◌}
use Rattle.std.proofs.lemmas.{Bool.false_from_ne_true, List.drop_more, List.Sums.position_or_len_is}
use Rattle.std.proofs.lemmas.{List.drop_all, Option.get_or_from_slice_get, Option.slice_get_within}
use Rattle.std.specs.{List.find, List.position, List.position_or_len, Prelude.unwrap_or}

pub find_at : {X : Type 0} (p : X → Bool) (xs : List X) (i : ℕ) (x : X) → slice_get xs i ≡ Some x
    → find p (drop i xs) ≡ cond (p x) (Some x) (find p (drop (i + 1) xs))
find_at p xs i x e = ap (find p) (drop_more xs i x (slice_get_within xs i x e)
    ∙ ap (λ y. y ∷ drop (i + 1) xs) (get_or_from_slice_get xs i x x e))

pub find_hit : {X : Type 0} (p : X → Bool) (xs : List X) (i : ℕ) (x : X) → slice_get xs i ≡ Some x
    → p x ≡ true → find p (drop i xs) ≡ Some x
find_hit p xs i x e h = find_at p xs i x e ∙ ap (λ b. cond b (Some x) (find p (drop (i + 1) xs))) h

pub find_miss : {X : Type 0} (p : X → Bool) (xs : List X) (i : ℕ) (x : X) → slice_get xs i ≡ Some x
    → p x ≡ false → find p (drop i xs) ≡ find p (drop (i + 1) xs)
find_miss p xs i x e h = find_at p xs i x e ∙ ap (λ b. cond b (Some x) (find p (drop (i + 1) xs))) h

pub slice_get_none : {X : Type 0} (xs : List X) (i : ℕ) → i < length xs → slice_get xs i ≡ None → ⊥
slice_get_none [] i h e = omega arith
slice_get_none (x ∷ xs) zero h e = cc
slice_get_none (x ∷ xs) (suc i) h e = slice_get_none xs i (omega arith) e

pub find_end : {X : Type 0} (p : X → Bool) (xs : List X) (i : ℕ) → length xs ≤ i
    → find p (drop i xs) ≡ None
find_end p xs i h = ap (find p) (drop_all i xs h)

-- where a byte first stands, as `memchr` says it
pub first_at : (byte : ℕ) (xs : List ℕ) (r : Option ℕ) → IsFirstByte (is_byte byte) xs r
    → position_or_len (λ b. b == byte) xs ≡ unwrap_or r (length xs)
first_at byte xs None h = position_or_len_is (λ b. b == byte) xs (length xs) 0 (omega arith)
    (λ k below. false_from_ne_true _ (h k (omega arith) below)) (λ below. absurd (omega arith))
first_at byte xs (Some k) h = position_or_len_is (λ b. b == byte) xs k 0 (omega (arith, h.0.high))
    (λ j below. false_from_ne_true _ (h.0.before j (omega arith) below)) (λ below. h.1)

pub position_is : (byte : ℕ) (xs : List ℕ) (r : Option ℕ) → IsFirstByte (is_byte byte) xs r
    → position (λ b. b == byte) xs ≡ r
position_is byte xs None h = rw (first_at byte xs None h) (grind arith)
position_is byte xs (Some k) h = rw (first_at byte xs (Some k) h) (grind (arith, h.0.high))
