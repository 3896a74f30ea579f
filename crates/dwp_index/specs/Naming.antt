-- The names of a package's units, where its indexes are tables of distinct identifiers.
use Rattle.std.specs.Prelude.{◌≡◌, ℕ, ◌+◌, List, [], ◌∷◌, ◌++◌, map, Option, Some, None}
use Rattle.dwp_table.specs.Table.{IsIndex}
use Rattle.dwp_index.specs.declared.units.UnitEntry.{UnitEntry}
use Rattle.dwp_index.specs.Index.{Index}
use Rattle.dwp_index.specs.Entries.{compilation_entry, type_entry}

-- identifiers, each with the number of its row, from this number on
abbrev pub numbered : ℕ → List ℕ → List (ℕ × ℕ)
numbered r [] = []
numbered r (id ∷ ids) = (id, r) ∷ numbered (r + 1) ids

-- the units of these identifiers and of these type signatures
abbrev pub entries_of : (ids signatures : List ℕ) → List UnitEntry
entries_of ids signatures =
    map compilation_entry (numbered 1 ids) ++ map type_entry (numbered 1 signatures)

-- an index is one of these distinct identifiers; without an index there are none
abbrev pub IsIndexOfIds : Option Index → List ℕ → Type 0
IsIndexOfIds None ids = ids ≡ []
IsIndexOfIds (Some index) ids = IsIndex ids index.signatures index.rows
