-- Which place among the paths of the command line a path has.
use Rattle.std.specs.Prelude.{◌≡◌, ℕ, List, length, ◌<◌, HoldsAt}
use Rattle.std.specs.Borrow.{Bor}

-- a path stands at a place among others
abbrev pub StandsAt : List (Bor (List ℕ)) → List ℕ → ℕ → Type 0
StandsAt paths path place =
    (place < length paths) × HoldsAt (λ given. given.now ≡ path) paths place
