-- Which unit a unit of a split object is (DWARF 5, 7.5.1: the identifier or signature in its
-- header; before version 5 the GNU_dwo_id of its root entry: the GNU page DebugFission).
use Rattle.std.specs.Prelude.{ℕ, List, [], ◌∷◌, take, drop, Bool, ◌||◌, ◌==◌, if◌then◌else◌, Option}
use Rattle.std.specs.Prelude.{Some, None, Result, Ok, Err, option_map}
use Rattle.std.specs.Option.{ok_or}
use Rattle.dwp_base.specs.Reading.{◌>>=◌}
use Rattle.dwp_bytes.specs.Input.{Input, section}
use Rattle.dwp_bytes.specs.declared.error.ReadError.{ReadError}
use Rattle.dwp_bytes.specs.declared.error.ReadError.TheVariants.{UnknownCode}
use Rattle.dwp_units.specs.declared.unit.UnitType.{UnitType}
use Rattle.dwp_units.specs.declared.unit.UnitType.TheVariants as unit_types
use Rattle.dwp_units.specs.Units.{Unit}
use Rattle.dwp_dwarf.specs.Abbreviations.{declaration}
use Rattle.dwp_dwarf.specs.Entries.{DebugAttribute, DebugEntry, entry, number_of}
use Rattle.dwp_units.specs.AbbreviationCodes.{root_code_at}
use Rattle.dwp_dwarf.specs.Offsets.{from_at}
use Rattle.dwp_table.specs.declared.object.DwarfObject.{DwarfObject}
use Rattle.dwp_table.specs.declared.object.DwarfObject.TheVariants.{Compilation, TypeUnit}
use Rattle.thorin_errors.specs.Errors.{ErrorValue, NoDie, TopLevelDieNotUnit}
use Rattle.thorin_errors.specs.Errors.{ParseUnitAbbreviations, GimliRead}
use Rattle.thorin_errors.specs.Answers.{as_error}

-- the compilation unit of an identifier, the type unit of a signature
abbrev pub compilation : ℕ → DwarfObject
compilation id = Compilation (record { 0 = id })

abbrev pub type_unit : ℕ → DwarfObject
type_unit signature = TypeUnit (record { 0 = signature })

-- the tags of units' root entries (DWARF 5, 7.5.3, Table 7.3)
abbrev pub DW_TAG_compile_unit : ℕ
DW_TAG_compile_unit = 0x11

abbrev pub DW_TAG_type_unit : ℕ
DW_TAG_type_unit = 0x41

-- a compilation unit's or a type unit's
abbrev pub is_unit_tag : ℕ → Bool
is_unit_tag tag = tag == DW_TAG_compile_unit || tag == DW_TAG_type_unit

-- the identifier's attribute in units before DWARF 5 (the GNU page DebugFission)
abbrev pub DW_AT_GNU_dwo_id : ℕ
DW_AT_GNU_dwo_id = 0x2131

-- the number of an attribute that is a GNU_dwo_id
abbrev pub identifier_in : DebugAttribute → Option ℕ
identifier_in a = if a.name == DW_AT_GNU_dwo_id then number_of a else None

-- what was found, or what comes of the others
abbrev pub found_or : Option ℕ → Result (Option DwarfObject) ErrorValue
    → Result (Option DwarfObject) ErrorValue
found_or None others = others
found_or (Some id) others = Ok (Some (compilation id))

-- the first such number, up to the first error
abbrev pub first_identifier : List (Result DebugAttribute ReadError)
    → Result (Option DwarfObject) ErrorValue
first_identifier [] = Ok None
first_identifier (Ok a ∷ others) = found_or (identifier_in a) (first_identifier others)
first_identifier (Err e ∷ others) = Err (GimliRead e)

-- the identifier in an entry of a unit
unfoldable pub entry_identity : DebugEntry → Result (Option DwarfObject) ErrorValue
entry_identity e =
    if is_unit_tag e.tag then first_identifier e.attributes else Err TopLevelDieNotUnit

-- the same by an entry's tag and its first number of a GNU_dwo_id, up to the first error
abbrev pub numbered_identity : ℕ × Result (Option ℕ) ReadError
    → Result (Option DwarfObject) ErrorValue
numbered_identity n = if is_unit_tag n.0
    then (as_error GimliRead n.1 >>= λ id. Ok (option_map compilation id))
    else Err TopLevelDieNotUnit

-- the identifier in the root entry of a compile unit, whose abbreviations stand in that section
unfoldable pub root_identity : Input → Unit → Result (Option DwarfObject) ErrorValue
root_identity section unit = do
  table ← as_error ParseUnitAbbreviations (from_at unit.abbrev_offset section)
  read ← as_error GimliRead (root_code_at unit.entries)
  code ← ok_or read NoDie
  found ← as_error ParseUnitAbbreviations (declaration code.0 table)
  d ← ok_or found (GimliRead UnknownCode)
  entry_identity (entry unit.encoding d code.1)

-- by the type of the unit
abbrev pub identity_by : Input → Unit → UnitType → Result (Option DwarfObject) ErrorValue
identity_by section unit (unit_types.Skeleton id) = Ok (Some (compilation id))
identity_by section unit (unit_types.SplitCompilation id) = Ok (Some (compilation id))
identity_by section unit (unit_types.TypeUnit signature offset) = Ok (Some (type_unit signature))
identity_by section unit (unit_types.SplitType signature offset) = Ok (Some (type_unit signature))
identity_by section unit unit_types.Compilation = root_identity section unit
identity_by section unit unit_types.Partial = Ok None

-- the unit's identity, if it has one
unfoldable pub identity : Input → Unit → Result (Option DwarfObject) ErrorValue
identity section unit = identity_by section unit unit.unit_type

-- a section's part from a place up to another, as a section of its own; nothing stands past the end
abbrev pub part_between : ℕ → ℕ → Input → Input
part_between start end whole = section whole.order (drop start (take end whole.bytes))

-- the unit, were its abbreviations at that offset
abbrev pub with_offset : ℕ → Unit → Unit
with_offset offset unit = record unit { abbrev_offset = offset }
