-- A list cut into pieces, with the place at which each begins.
use Rattle.std.specs.Prelude.{◌≡◌, ℕ, suc, ◌+◌, ◌/◌, ◌<◌, ◌≤◌, List, [], ◌∷◌, map, length, take}
use Rattle.std.specs.Prelude.{drop, insert, slice_index, slice_index_or, slice_set, All, Vec}
use Rattle.std.specs.List.{concat}

-- what the vectors of a list hold
abbrev pub pieces : {A : Type 0} → List (Vec ℕ A) → List (List ℕ)
pieces {A} chunks = map (λ (chunk : Vec ℕ A). chunk.items) chunks

-- where pieces begin that stand one after another from a place on
abbrev pub starts_from : ℕ → List (List ℕ) → List ℕ
starts_from at [] = []
starts_from at (p ∷ ps) = at ∷ starts_from (at + length p) ps

-- the piece of that number is the last that begins at a place or before it
pub record IsPieceOf (starts : List ℕ) (place number : ℕ) : Type 0 where
  pub there : number < length starts
  pub low : slice_index starts number ≤ place
  pub high : number + 1 < length starts → place < slice_index starts (number + 1)

-- no piece has more than 1024 elements
abbrev pub AreShort : List (List ℕ) → Type 0
AreShort ps = All (λ p. length p ≤ 1024) ps

-- pieces with where each begins, and how much they hold
pub record IsChunked (ps : List (List ℕ)) (starts : List ℕ) (count : ℕ) : Type 0 where
  pub begun : starts ≡ starts_from 0 ps
  pub counted : count ≡ length (concat ps)
  pub short : AreShort ps

-- the piece of that number was cut in its middle
abbrev pub IsHalved : (ps qs : List (List ℕ)) → ℕ → Type 0
IsHalved ps qs at = qs ≡ insert
    (slice_set ps at (take (length (slice_index_or ps at []) / 2) (slice_index_or ps at [])))
    (suc at) (drop (length (slice_index_or ps at []) / 2) (slice_index_or ps at []))
