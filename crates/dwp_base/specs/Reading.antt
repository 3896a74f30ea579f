-- Reading from left to right: the first error that is met is the answer.
use Rattle.std.specs.Prelude.{◌≡◌, List, [], ◌∷◌, Result, Ok, Err}

infixl 10 ◌>>=◌
-- what comes next, unless there was an error
abbrev pub ◌>>=◌ : {A B E : Type 0} → Result A E → (A → Result B E) → Result B E
(Ok x) >>= f = f x
(Err e) >>= f = Err e

-- what is read for each, in their order
abbrev pub read_each : {X Y E : Type 0} → (X → Result Y E) → List X → Result (List Y) E
read_each f [] = Ok []
read_each f (x ∷ xs) = f x >>= λ y. read_each f xs >>= λ ys. Ok (y ∷ ys)

-- what a call answered, seen by view, is what the definition says
abbrev pub Answers : {X Y E : Type 0} → (X → Y) → Result X E → Result Y E → Type 0
Answers view (Ok x) meaning = meaning ≡ Ok (view x)
Answers view (Err e) meaning = meaning ≡ Err e

-- the same for a call that moves a reader: what is left is said too, and a refusal leaves it as it
-- was
abbrev pub Reads : {I X Y E : Type 0} → (X → Y) → Result X E → I → I
    → (I → Result (Y × I) E) → Type 0
Reads view (Ok x) old new meaning = meaning old ≡ Ok (view x, new)
Reads view (Err e) old new meaning = (meaning old ≡ Err e) × (new ≡ old)
