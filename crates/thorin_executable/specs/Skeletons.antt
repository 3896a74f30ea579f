-- The split units that an executable names: the skeleton units of DWARF 5 (3.1.2), and before
-- version 5 the units with a GNU_dwo_id (the GNU page DebugFission).
use Rattle.std.specs.Prelude.{ℕ, List, [], ◌∷◌, Option, Some, None, Result, Ok, Err}
use Rattle.std.specs.Option.{ok_or}
use Rattle.dwp_base.specs.Reading.{◌>>=◌}
use Rattle.dwp_bytes.specs.Input.{Input}
use Rattle.dwp_bytes.specs.declared.error.ReadError.{ReadError}
use Rattle.dwp_bytes.specs.declared.error.ReadError.TheVariants.{UnknownCode}
use Rattle.dwp_dwarf.specs.Entries.{DebugAttribute}
use Rattle.dwp_dwarf.specs.Offsets.{from_at}
use Rattle.dwp_dwarf.specs.Split.{SplitAttributes, object_name, split_at}
use Rattle.dwp_units.specs.AbbreviationCodes.{root_code_at}
use Rattle.dwp_units.specs.Units.{Unit, units}
use Rattle.dwp_units.specs.declared.unit.UnitSection.TheVariants.{Info}
use Rattle.dwp_table.specs.declared.object.DwarfObject.{DwarfObject}
use Rattle.dwp_table.specs.declared.object.DwarfObject.TheVariants.{Compilation, TypeUnit}
use Rattle.thorin_errors.specs.Errors.{ErrorValue, MissingDwoName, NoDie, ParseUnit}
use Rattle.thorin_errors.specs.Errors.{ParseUnitHeader}
use Rattle.thorin_errors.specs.Answers.{as_error}
use Rattle.thorin_identity.specs.Identity.{identity}
use Rattle.thorin_executable.specs.Sections.{DebugData, debug_data_of}
use Rattle.thorin_executable.specs.Paths.{object_path}
use Rattle.thorin_executable.specs.declared.listing.NamelessUnits.{NamelessUnits}
use Rattle.thorin_executable.specs.declared.listing.NamelessUnits.TheVariants.{Refused, PassedOver}

-- a split unit, and the path of its object
abbrev pub Named : Type 0
Named = DwarfObject × List ℕ

-- a unit that names no object: its root entry has neither a DW_AT_dwo_name nor a
-- DW_AT_GNU_dwo_name. A type unit has no object of its own; a compilation unit is an error, unless
-- such units are passed over
abbrev pub unnamed : NamelessUnits → DwarfObject → Result (Option Named) ErrorValue
unnamed Refused (Compilation id) = Err (MissingDwoName id.0)
unnamed PassedOver (Compilation id) = Ok None
unnamed nameless (TypeUnit signature) = Ok None

-- the object of a unit, by the attribute that names it
abbrev pub named_by : NamelessUnits → DebugData → Unit → DwarfObject → SplitAttributes
    → Option DebugAttribute → Result (Option Named) ErrorValue
named_by nameless debug unit target root None = unnamed nameless target
named_by nameless debug unit target root (Some attribute) =
    object_path debug.strings unit.encoding.format root attribute >>= λ path.
    Ok (Some (target, path))

-- the attributes of a unit's root entry that name its split object (DWARF 5, 7.5.4); its
-- abbreviations stand in that section
unfoldable pub root_attributes : Input → Unit → Result SplitAttributes ErrorValue
root_attributes debug_abbrev unit = do
  read ← as_error ParseUnit (root_code_at unit.entries)
  code ← ok_or read NoDie
  table ← as_error ParseUnit (from_at unit.abbrev_offset debug_abbrev)
  found ← as_error ParseUnit (split_at unit.encoding code.1 code.0 table)
  ok_or found (ParseUnit UnknownCode)

-- the object of a unit that may have an identity; one without is no part of a split unit
abbrev pub named_if : NamelessUnits → DebugData → Unit → Option DwarfObject
    → Result (Option Named) ErrorValue
named_if nameless debug unit None = Ok None
named_if nameless debug unit (Some target) = do
  root ← root_attributes debug.debug_abbrev unit
  named_by nameless debug unit target root (object_name root)

-- the split unit that the unit stands for that was read next, if it does
unfoldable pub skeleton_read : NamelessUnits → DebugData → Result Unit ReadError
    → Result (Option Named) ErrorValue
skeleton_read nameless debug read = do
  unit ← as_error ParseUnitHeader read
  found ← identity debug.debug_abbrev unit
  named_if nameless debug unit found

-- a list up to the first error, and that error
abbrev pub Listed : Type 0
Listed = List Named × Option ErrorValue

-- the units of an executable that are left to read, and the path of the one that came last
pub record NamedLeft : Type 0 where
  pub listed : Listed
  pub path : List ℕ

-- what comes first, and the others
abbrev pub with_first : Result (Option Named) ErrorValue → Listed → Listed
with_first (Ok None) others = others
with_first (Ok (Some first)) others = (first ∷ others.0, others.1)
with_first (Err error) others = ([], Some error)

-- what some units stand for
abbrev pub skeletons_from : NamelessUnits → DebugData → List (Result Unit ReadError) → Listed
skeletons_from nameless debug [] = ([], None)
skeletons_from nameless debug (read ∷ rest) =
    with_first (skeleton_read nameless debug read) (skeletons_from nameless debug rest)

-- what the units of an executable stand for
abbrev pub skeletons_in : NamelessUnits → Result DebugData ErrorValue → Listed
skeletons_in nameless (Ok debug) = skeletons_from nameless debug (units Info debug.debug_info)
skeletons_in nameless (Err error) = ([], Some error)

-- what a file's units stand for, where units that name no object are refused or passed over
unfoldable pub skeletons_by : NamelessUnits → List ℕ → Listed
skeletons_by nameless bytes = skeletons_in nameless (debug_data_of bytes)

-- the same, where one that names no object is an error
abbrev pub skeletons_of : List ℕ → Listed
skeletons_of = skeletons_by Refused

-- the same, where one that names no object stands for nothing
abbrev pub named_skeletons_of : List ℕ → Listed
named_skeletons_of = skeletons_by PassedOver
