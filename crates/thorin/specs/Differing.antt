-- The type units of an input that are passed over and differ from those that are kept (DWARF 5,
-- 7.3.5).
use Rattle.std.specs.Prelude.{ℕ, List, [], ◌∷◌, ◌++◌, map, Option, Some, None, Result, Ok}
use Rattle.std.specs.Prelude.{if◌then◌else◌}
use Rattle.std.specs.Map.{lookup}
use Rattle.std.specs.Str.{bytes_eq}
use Rattle.dwp_base.specs.Reading.{◌>>=◌}
use Rattle.dwp_table.specs.Objects.{identifier_of}
use Rattle.dwp_table.specs.declared.object.DwarfObject.{DwarfObject}
use Rattle.thorin_errors.specs.Errors.{ErrorValue}
use Rattle.thorin_input.specs.Encodings.{encoding_of}
use Rattle.thorin_input.specs.Indexes.{indexes_of}
use Rattle.thorin_input.specs.Names.{same_name}
use Rattle.thorin_input.specs.Used.{InputFile, opened, has_info, input_file_of}
use Rattle.thorin_join.specs.Meaning.{Members, UnitRead, source_units}

-- units by their names, each with its own bytes
abbrev pub Bytes : Type 0
Bytes = List (DwarfObject × List ℕ)

abbrev pub own_bytes : Members → Bytes
own_bytes units = map {B = DwarfObject × List ℕ} (λ u. (u.0, u.1.bytes)) units

abbrev pub read_bytes : List (DwarfObject × UnitRead) → Bytes
read_bytes units = map {B = DwarfObject × List ℕ} (λ u. (u.0, u.1.unit.whole.bytes)) units

-- the units of an input, in file order; without an info section there are none
unfoldable pub object_units : InputFile → Result Bytes ErrorValue
object_units object = do
  encoding ← encoding_of object
  indexes ← indexes_of object encoding
  units ← source_units (record { object = object; encoding = encoding; indexes = indexes })
  Ok (read_bytes units)

unfoldable pub input_units : List ℕ → Result Bytes ErrorValue
input_units bytes = do
  file ← opened bytes
  if has_info file then (input_file_of file >>= object_units) else Ok []

-- the bytes that are kept for a name: those of a unit that the input brought before, else of one
-- that was there
abbrev pub or_there : Option (List ℕ) → Option (List ℕ) → Option (List ℕ)
or_there (Some bytes) there = Some bytes
or_there None there = there

abbrev pub kept_for : (there brought : Bytes) → DwarfObject → Option (List ℕ)
kept_for there brought name =
    or_there (lookup (same_name name) brought) (lookup (same_name name) there)

-- a unit's signature, where its bytes differ from those that are kept
abbrev pub differs : List ℕ → DwarfObject × List ℕ → List ℕ
differs kept unit = if bytes_eq kept unit.1 then [] else identifier_of unit.0 ∷ []

-- of units of an input, in order: one whose name is there is passed over, another is brought
abbrev pub differing_by : Option (List ℕ) → DwarfObject × List ℕ → (passed brought : List ℕ)
    → List ℕ
differing_by (Some kept) unit passed brought = differs kept unit ++ passed
differing_by None unit passed brought = brought

abbrev pub differing : (there brought units : Bytes) → List ℕ
differing there brought [] = []
differing there brought (unit ∷ rest) = differing_by (kept_for there brought unit.0) unit
    (differing there brought rest) (differing there (brought ++ unit ∷ []) rest)
