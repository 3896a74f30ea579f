-- The names that a unit's own bytes give: that of its source, DW_AT_name of its unit DIE (DWARF 5,
-- 3.1.1), and that of its object, DW_AT_dwo_name (3.1.2) or DW_AT_GNU_dwo_name (the GNU page
-- DebugFission). In a package a string stands in the unit, or the unit's string offsets name it
-- (DWARF 5, 7.3.5 and 7.26).
use Rattle.std.specs.Prelude.{ℕ, ◌+◌, List, [], ◌∷◌, take, Option, Some, None, Result, Ok, Err}
use Rattle.std.specs.Prelude.{◌==◌, ◌||◌, if◌then◌else◌, option_map}
use Rattle.std.specs.Option.{option_or, option_and_then, option_flatten}
use Rattle.std.specs.Result.{result_ok}
use Rattle.dwp_base.specs.Reading.{◌>>=◌}
use Rattle.dwp_base.specs.declared.endian.Endianness.{Endianness}
use Rattle.dwp_base.specs.declared.section.SectionKind.TheVariants.{Abbrev, StrOffsets, Types}
use Rattle.dwp_bytes.specs.Input.{Input, section, front, skip_at, byte_at, number_at}
use Rattle.dwp_bytes.specs.Leb.{uleb_at}
use Rattle.dwp_bytes.specs.StringOffsets.{entry_in, string_at}
use Rattle.dwp_bytes.specs.declared.error.ReadError.{ReadError}
use Rattle.dwp_dwarf.specs.Abbreviations.{declaration}
use Rattle.dwp_dwarf.specs.Entries.{DebugAttribute, DebugEntry, entry, number_read}
use Rattle.dwp_dwarf.specs.Split.{DW_AT_dwo_name, DW_AT_GNU_dwo_name}
use Rattle.dwp_units.specs.AbbreviationCodes.{root_code_at}
use Rattle.dwp_dwarf.specs.Offsets.{from_at}
use Rattle.dwp_units.specs.Units.{Unit, units}
use Rattle.dwp_index.specs.Index.{range_in}
use Rattle.dwp_index.specs.Package.{FoundUnit, place_of, row_bytes}
use Rattle.dwp_table.specs.declared.object.DwarfObject.{DwarfObject}

-- ---- the unit DIE

-- how many bytes are read at most of a unit's abbreviations, and of the values of its unit DIE: so
-- many units that share them cost no more
abbrev pub most_read : ℕ
most_read = 16384

-- a beginning of the abbreviations that stand at an offset
unfoldable pub table_at : ℕ → Input → Result Input ReadError
table_at offset abbreviations = do
  rest ← skip_at offset abbreviations
  from_at 0 (front most_read rest.1)

-- the entry of a code, whose values stand there; none where no abbreviation has the code
abbrev pub entry_by : Input → Unit → Option (ℕ × Input) → Result (Option DebugEntry) ReadError
entry_by abbreviations unit None = Ok None
entry_by abbreviations unit (Some code) =
    table_at unit.abbrev_offset abbreviations >>= λ table. declaration code.0 table >>= λ found.
    Ok (option_map (λ d. entry unit.encoding d (front most_read code.1)) found)

-- the unit DIE of a unit
unfoldable pub unit_die : Input → Unit → Result (Option DebugEntry) ReadError
unit_die abbreviations unit = root_code_at unit.entries >>= entry_by abbreviations unit

-- the first of some units
abbrev pub first_of : List (Result Unit ReadError) → Option Unit
first_of [] = None
first_of (Ok unit ∷ rest) = Some unit
first_of (Err e ∷ rest) = None

-- the header of a unit of a package, where its own bytes have one
abbrev pub header_in : Endianness → DwarfObject → FoundUnit → Option Unit
header_in order object unit =
    first_of (units (place_of object (range_in unit.row Types)) (section order unit.bytes))

-- the unit DIE of a unit of a package, where it can be read
unfoldable pub die_of : Endianness → DwarfObject → FoundUnit → Option DebugEntry
die_of order object unit = option_and_then
    (λ u. option_flatten (result_ok
    (unit_die (section order (row_bytes unit.contents unit.row Abbrev)) u)))
    (header_in order object unit)

-- the first attribute of a name, before the first error
abbrev pub named : ℕ → List (Result DebugAttribute ReadError) → Option DebugAttribute
named name [] = None
named name (Ok a ∷ rest) = if a.name == name then Some a else named name rest
named name (Err e ∷ rest) = None

-- ---- strings

-- how many bytes a name is sought in: a longer one names no file
abbrev pub most_named : ℕ
most_named = 4096

-- the string at an offset, where it ends within so many bytes
unfoldable pub short_string_at : List ℕ → ℕ → Option (List ℕ)
short_string_at strings offset =
    result_ok (string_at (take (offset + most_named) strings) offset)

-- the number of a string among the unit's: of the forms strx and GNU_str_index, strx1, strx2, strx3
-- and strx4
unfoldable pub string_number : DebugAttribute → Option ℕ
string_number a =
    if a.form == 0x1a || a.form == 0x1f02 then number_read (uleb_at a.value) else
    (if a.form == 0x25 then number_read (byte_at a.value) else
    (if a.form == 0x26 then number_read (number_at 2 a.value) else
    (if a.form == 0x27 then number_read (number_at 3 a.value) else
    (if a.form == 0x28 then number_read (number_at 4 a.value) else None))))

-- the string of a number
unfoldable pub numbered_string : Endianness → (strings : List ℕ) → FoundUnit → ℕ
    → Option (List ℕ)
numbered_string order strings unit i =
    option_and_then (short_string_at strings)
    (entry_in order unit.encoding (row_bytes unit.contents unit.row StrOffsets) i)

-- the string of an attribute: in the unit, by the form string, or by its number
unfoldable pub string_of : Endianness → (strings : List ℕ) → FoundUnit → DebugAttribute
    → Option (List ℕ)
string_of order strings unit a = if a.form == 0x08 then short_string_at a.value.bytes 0
    else option_and_then (numbered_string order strings unit) (string_number a)

-- ---- names

abbrev pub DW_AT_name : ℕ
DW_AT_name = 0x03

-- of its source
abbrev pub source_in : DebugEntry → Option DebugAttribute
source_in die = named DW_AT_name die.attributes

-- of its object
abbrev pub object_in : DebugEntry → Option DebugAttribute
object_in die =
    option_or (named DW_AT_dwo_name die.attributes) (named DW_AT_GNU_dwo_name die.attributes)

unfoldable pub source_name : Endianness → (strings : List ℕ) → DwarfObject → FoundUnit
    → Option (List ℕ)
source_name order strings object unit = option_and_then (string_of order strings unit)
    (option_and_then source_in (die_of order object unit))

unfoldable pub object_name : Endianness → (strings : List ℕ) → DwarfObject → FoundUnit
    → Option (List ℕ)
object_name order strings object unit = option_and_then (string_of order strings unit)
    (option_and_then object_in (die_of order object unit))
