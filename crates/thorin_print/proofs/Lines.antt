-- Lines that are added one after the other.
use Rattle.std.proofs.Common.{◌≡◌, ◌∙◌, ℕ, ◌+◌, ◌<◌, List, ◌++◌, length, take, get_or, flat_map}
use Rattle.std.proofs.lemmas.List.{flat_map_more, take_more}
-- what is left is one, and the rest
pub use Rattle.std.proofs.lemmas.List.{drop_more as drop_next}

-- the lines of one more
pub flat_map_next : {A : Type 0} (f : A → List ℕ) (xs : List A) (i : ℕ) (d : A)
    (start old new : List ℕ) → i < length xs → old ≡ start ++ flat_map f (take i xs)
    → new ≡ old ++ f (get_or xs i d) → new ≡ start ++ flat_map f (take (i + 1) xs)
flat_map_next f xs i d start old new lt so_far added =
    added ∙ rw (so_far, take_more xs i d lt) (flat_map_more f start (take i xs) (get_or xs i d))
