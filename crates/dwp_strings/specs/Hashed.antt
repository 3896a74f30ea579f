-- Strings that are found by their hashes, or else by their order.
use Rattle.std.specs.Prelude.{◌≡◌, ◌<◌, ◌⊎◌, ℕ, List, Some, length, All, Contains}
use Rattle.dwp_strings.specs.declared.entries.Entries.{Entries}
use Rattle.dwp_strings.specs.Places.{hash, place_in, shared, IsOrdered}
use Rattle.dwp_strings.specs.Strings.{strings_in, offset_of, IsIndexed}

-- the strings of entries
abbrev pub held : Entries → List (List ℕ)
held e = strings_in e.bytes

-- a string of a hash at a place is found: the hash has the place, or that is among those in order
abbrev pub IsFound : Entries → ℕ → ℕ → Type 0
IsFound e h n = ((place_in e.places h ≡ Some n) × (n < shared))
    ⊎ (Contains e.ordered n × IsOrdered e.places h)

-- the strings of a section of ended ones are distinct, each is found, and so many are counted
pub record IsHashed (e : Entries) : Type 0 where
  pub indexed : IsIndexed e.bytes e.ordered
  pub found : All (λ s. IsFound e (hash s) (offset_of (held e) s)) (held e)
  pub counted : e.count ≡ length (held e)
