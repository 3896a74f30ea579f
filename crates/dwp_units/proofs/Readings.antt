-- Readings made of others, with what `dwp_bytes` says of them, and what comes of many steps.
use Rattle.dwp_units.proofs.Terms
use Rattle.dwp_bytes.specs.Input.{after, number_at, relocated_at}
use Terms.{ap, Err, ltb, ltb-false, Ok, suc, sym, take, zero, ℕ, ◌++◌, ◌+◌, ◌<◌, ◌∙◌, ◌≡◌, ◌≤◌}
use Terms.{append_assoc, length-drop, ReadError, skip_at, split_at, take-append-drop, UnexpectedEof}
use Terms.{arith, Bool, cond, drop, front, Goes, Input, length, List, refl, Result, take-add, ◌>>=◌}
pub use Rattle.dwp_bytes.proofs.Reading.{Answer, goes, goes_then, size, was}
pub use Rattle.dwp_bytes.proofs.Reading.{Gives, goes_length, Reads, Takes, value_gives, value_reads}
pub use Rattle.dwp_bytes.proofs.Reading.{after-after, by-result, test_reads, then_gives, then_reads}
pub use Rattle.dwp_bytes.proofs.Reading.{after-zero, goes_after, goes_least, more_gives, reads_byte}
pub use Rattle.dwp_bytes.proofs.Reading.{error_gives, error_reads, goes_none, goes_some, told_there}
pub use Rattle.dwp_bytes.proofs.Reading.{reads_sleb, reads_uleb, some_reads, takes_then, test_gives}

-- a reading has one answer
pub one_answer : {A E : Type 0} (r : Result A E) {x y : A} → r ≡ Ok x → r ≡ Ok y → x ≡ y
one_answer r p q = cc

-- steps that go on alike are alike
pub bind_alike : {A B E : Type 0} (r : Result A E) (f g : A → Result B E)
    → ((x : A) → r ≡ Ok x → f x ≡ g x) → (r >>= f) ≡ (r >>= g)
bind_alike r f g same = grind (arith, same)

pub bind-bind : {A B C E : Type 0} (r : Result A E) (f : A → Result B E) (g : B → Result C E)
    → ((r >>= f) >>= g) ≡ (r >>= λ x. f x >>= g)
bind-bind r f g = grind arith

pub bind-cond : {A B E : Type 0} (b : Bool) (r s : Result A E) (f : A → Result B E)
    → (cond b r s >>= f) ≡ cond b (r >>= f) (s >>= f)
bind-cond b r s f = grind arith

-- what is taken where there are so many bytes
guard_gives : {A : Type 0} (n : ℕ) (i : Input) (a : A)
    → Gives (A × Input) (cond (ltb (length i.bytes) n) (Err UnexpectedEof) (Ok (a, after n i)))
    (λ x. Goes n i x.1)
guard_gives n i a = test_gives (ltb (length i.bytes) n) (λ _. error_gives)
    (λ some. value_gives (goes_after n (ltb-false _ _ some)))

pub then_split : {B : Type 0} {P : B → Type 0} (f : Input × Input → Result B ReadError) (n : ℕ)
    (i : Input) → (n ≤ length i.bytes → Gives B (f (front n i, after n i)) P)
    → Gives B (split_at n i >>= f) P
unfolding split_at
then_split f n i next = then_gives (test_gives {P = λ x. (n ≤ length i.bytes)
    × (x ≡ (front n i, after n i))} (ltb (length i.bytes) n) (λ _. error_gives)
    (λ some. value_gives (ltb-false _ _ some, refl))) (λ x s. rw s.1 (next s.0))

pub skip_goes : (n : ℕ) (i : Input) → Gives (Unit {0} × Input) (skip_at n i) (λ x. Goes n i x.1)
unfolding skip_at
skip_goes n i = guard_gives n i _

pub number_goes : (n : ℕ) (i : Input) → Gives (ℕ × Input) (number_at n i) (λ x. Goes n i x.1)
unfolding number_at
number_goes n i = guard_gives n i _

pub relocated_goes : (n : ℕ) (i : Input) → Gives (ℕ × Input) (relocated_at n i) (λ x. Goes n i x.1)
unfolding relocated_at
relocated_goes n i = guard_gives n i _

-- ---- more bytes behind, or fewer

-- the input with more bytes behind
abbrev pub more : Input → List ℕ → Input
more i rest = record i { bytes = i.bytes ++ rest }

-- they say it where some of the bytes behind them are missing
pub takes_front : {least : ℕ} {i left : Input} {Says : Input → Input → Type 0}
    → Takes least i left Says → (n m : ℕ) → n + length left.bytes ≡ m + length i.bytes
    → Says (front n i) (front m left)
takes_front {i = i} t n m same =
    let size : n ≡ t.goes.taken + m =
    omega (arith, ap size t.goes.is, length-drop t.goes.taken i.bytes, t.goes.enough) in
    rw (size, take-add t.goes.taken m i.bytes, t.goes.is)
    (t.anyway i (take m (drop t.goes.taken i.bytes)))

-- and where more bytes follow
pub takes_more : {least : ℕ} {i left : Input} {Says : Input → Input → Type 0}
    → Takes least i left Says → (rest : List ℕ) → Says (more i rest) (more left rest)
takes_more {i = i} t rest =
    let behind : List ℕ = drop t.goes.taken i.bytes in
    rw t.goes.is (rw (
      ← append_assoc (take t.goes.taken i.bytes) behind rest,
      take-append-drop t.goes.taken i.bytes,
    ) at (t.anyway i (behind ++ rest)))

-- what takes at least a byte leaves less
pub shorter : {A : Type 0} {read : Input → Answer A} → Reads 1 A read → (i : Input) (x : A × Input)
    → read i ≡ Ok x → length x.1.bytes < length i.bytes
shorter r i x e = omega (arith, goes_length ((goes r i).gives x e))

-- ---- at most so many steps, each to something smaller: more than the size change nothing

pub record Steps {S R : Type 0} (size : S → ℕ) (within : ℕ → S → R) (step : (S → R) → S → R) :
    Type 0 where
  -- nothing comes of what has no size
  pub none : (others : S → R) (s : S) → size s ≡ 0 → within 0 s ≡ step others s
  pub next : (n : ℕ) (s : S) → within (suc n) s ≡ step (within n) s
  -- a step goes by what comes of smaller ones
  pub alike : (f g : S → R) (s : S) → ((t : S) → size t < size s → f t ≡ g t)
      → step f s ≡ step g s

module _ {S R : Type 0} {size : S → ℕ} {within : ℕ → S → R} {step : (S → R) → S → R}
    (steps : Steps size within step) where
  pub enough : (m n : ℕ) (s : S) → size s ≤ m → size s ≤ n → within m s ≡ within n s
  enough zero zero s p q = refl
  enough zero (suc n) s p q = steps.none (within n) s (omega arith) ∙ sym (steps.next n s)
  enough (suc m) zero s p q = steps.next m s ∙ sym (steps.none (within m) s (omega arith))
  enough (suc m) (suc n) s p q = steps.next m s
      ∙ steps.alike (within m) (within n) s (λ t less. enough m n t (omega arith) (omega arith))
      ∙ sym (steps.next n s)

  pub by_step : (s : S) → within (size s) s ≡ step (λ t. within (size t) t) s
  by_step s = enough (size s) (suc (size s)) s (omega arith) (omega arith)
      ∙ steps.next (size s) s ∙ steps.alike (within (size s)) (λ t. within (size t) t) s
      (λ t less. enough (size s) (size t) t (omega arith) (omega arith))
