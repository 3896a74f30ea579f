-- Steps that read: what one that answered says of those before it, and what is read for each of a
-- list.
use Rattle.std.proofs.Common.{◌≡◌, ℕ, zero, suc, Bool, true, false, cond, List, [], ◌∷◌, map, refl}
use Rattle.std.proofs.Common.{sym, ap, ◌∙◌, ◌⊎◌, inl, inr, Some, Result, Ok, Err, slice_get}
use Rattle.dwp_base.specs.Reading.{◌>>=◌, read_each}

-- a step that answered goes on
pub bind-ok : {A B E : Type 0} (r : Result A E) (x : A) (f : A → Result B E) → r ≡ Ok x
    → (r >>= f) ≡ f x
bind-ok r x f e = ap (λ s. s >>= f) e

pub bind-err : {A B E : Type 0} (r : Result A E) (error : E) (f : A → Result B E) → r ≡ Err error
    → (r >>= f) ≡ Err error
bind-err r error f e = ap (λ s. s >>= f) e

-- the value of a step, where what follows it answered
pub bind-was : {A B E : Type 0} (r : Result A E) (f : A → Result B E) (y : B) → (r >>= f) ≡ Ok y
    → (x : A) × (r ≡ Ok x) × (f x ≡ Ok y)
bind-was (Ok x) f y e = (x, refl, e)
bind-was (Err d) f y e = absurd cc

pub same-ok : {A E : Type 0} (x y : A) → ◌≡◌ {A = Result A E} (Ok x) (Ok y) → x ≡ y
same-ok x y e = cc

-- a test that is to fail
pub guard-ok : {A E : Type 0} (b : Bool) (d : E) (x y : A) → cond b (Err d) (Ok x) ≡ Ok y
    → (b ≡ false) × (x ≡ y)
guard-ok true d x y e = absurd cc
guard-ok false d x y e = (refl, cc)

-- which of two was chosen
pub chosen : {A : Type 0} (b : Bool) (x y z : A) → cond b x y ≡ z
    → ((b ≡ true) × (x ≡ z)) ⊎ ((b ≡ false) × (y ≡ z))
chosen true x y z e = inl (refl, e)
chosen false x y z e = inr (refl, e)

-- what follows from either
pub by-choice : {A : Type 0} (P : Type 0) (b : Bool) (x y z : A) → cond b x y ≡ z → (x ≡ z → P)
    → (y ≡ z → P) → P
by-choice P true x y z h left right = left h
by-choice P false x y z h left right = right h

-- what is read for each, where each is read
pub each-read : {X Y E : Type 0} (f : X → Result Y E) (g : X → Y) → ((x : X) → f x ≡ Ok (g x))
    → (xs : List X) → read_each f xs ≡ Ok (map g xs)
each-read f g read [] = refl
each-read f g read (x ∷ xs) = rw (read x, each-read f g read xs) refl

-- what was read for one of them
pub read-at : {X Y E : Type 0} (f : X → Result Y E) (xs : List X) (ys : List Y)
    → read_each f xs ≡ Ok ys → (i : ℕ) (x : X) → slice_get xs i ≡ Some x
    → (y : Y) × (f x ≡ Ok y) × (slice_get ys i ≡ Some y)
read-at f [] ys e i x at = absurd cc
read-at f (x' ∷ xs) ys e zero x at =
    let first = bind-was (f x') _ ys e in
    let rest = bind-was (read_each f xs) _ ys first.2 in
    let same : x' ≡ x = cc in
    (first.0, ap f (sym same) ∙ first.1, ap (λ l. slice_get l 0) (sym (same-ok _ _ rest.2)))
read-at f (x' ∷ xs) ys e (suc i) x at =
    let first = bind-was (f x') _ ys e in
    let rest = bind-was (read_each f xs) _ ys first.2 in
    let later = read-at f xs rest.0 rest.1 i x at in
    (later.0, later.1, ap (λ l. slice_get l (suc i)) (sym (same-ok _ _ rest.2)) ∙ later.2)
