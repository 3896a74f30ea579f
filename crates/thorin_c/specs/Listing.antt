-- What the exports that list a package's units answer.
use Rattle.std.specs.Prelude.{◌≡◌, ℕ, ◌-◌, ◌^◌, ℤ, List, [], ◌∷◌, map, length, min, Result, Ok, Err}
use Rattle.dwp_base.specs.Reading.{◌>>=◌}
use Rattle.dwp_table.specs.Objects.{identifier_of}
use Rattle.dwp_table.specs.declared.object.DwarfObject.{DwarfObject}
use Rattle.dwp_table.specs.declared.object.DwarfObject.TheVariants.{Compilation, TypeUnit}
use Rattle.dwp_index.specs.Entries.{entries_from}
use Rattle.dwp_index.specs.Package.{Package}
use Rattle.dwp_index.specs.declared.units.UnitEntry.{UnitEntry}
use Rattle.thorin_c.specs.declared.types.ThorinName.{ThorinName}

-- the number of a kind of units: 1 for a compilation unit, 2 for a type unit
abbrev pub kind_number : DwarfObject → ℕ
kind_number (Compilation id) = 1
kind_number (TypeUnit signature) = 2

-- a unit that an index names, by its kind and identifier
abbrev pub name_of : UnitEntry → ThorinName
name_of entry = record {
  id = identifier_of entry.object;
  row = entry.row;
  kind = kind_number entry.object;
}

-- the units that the indexes name, those of the compilation index first
abbrev pub names_of : Package → List ThorinName
names_of pack = map name_of (entries_from pack.compilations pack.types 0 0)

-- how many there are, as far as 64 bits count
abbrev pub counted : List ThorinName → ℕ
counted names = min (length names) (2 ^ 64 - 1)

-- the same of a package that was read
abbrev pub count_in : Result Package ℤ → Result ℕ ℤ
count_in read = read >>= λ pack. Ok (counted (names_of pack))

-- a list written over another from its beginning on, as far as there is room
abbrev pub written_over : {A : Type 0} → List A → List A → List A
written_over old [] = old
written_over [] (x ∷ list) = []
written_over (y ∷ old) (x ∷ list) = x ∷ written_over old list

-- the names are written; or the package can't be read, and nothing is written
abbrev pub Lists : Result Package ℤ → (old new : List ThorinName) → Type 0
Lists (Ok pack) old new = new ≡ written_over old (names_of pack)
Lists (Err s) old new = new ≡ old
