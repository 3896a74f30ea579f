-- The units that an input adds to a package, each with its row (DWARF 5, 7.3.5 and 7.5.1).
use Rattle.std.specs.Prelude.{ℕ, Bool, true, false, ◌==◌, ◌&&◌, List, [], ◌∷◌, ◌++◌, Option, Some}
use Rattle.std.specs.Prelude.{None, Result, Ok, Err, if◌then◌else◌}
use Rattle.std.specs.Map.{lookup}
use Rattle.std.specs.Option.{ok_or}
use Rattle.std.specs.Str.{bytes_eq}
use Rattle.dwp_base.specs.declared.section.SectionKind.{SectionKind}
use Rattle.dwp_base.specs.declared.section.SectionKind.TheVariants as kinds
use Rattle.dwp_base.specs.Reading.{◌>>=◌}
use Rattle.dwp_bytes.specs.Input.{section}
use Rattle.dwp_bytes.specs.declared.error.ReadError.{ReadError}
use Rattle.dwp_units.specs.Units.{Unit as Header, units}
use Rattle.dwp_units.specs.declared.unit.UnitSection.{UnitSection}
use Rattle.dwp_units.specs.declared.unit.UnitSection.TheVariants as places
use Rattle.dwp_table.specs.Objects.{identifier_of}
use Rattle.dwp_table.specs.declared.object.DwarfObject.{DwarfObject}
use Rattle.dwp_table.specs.declared.object.DwarfObject.TheVariants.{Compilation, TypeUnit}
use Rattle.thorin_index.specs.declared.entry.IndexEntry.{IndexEntry}
use Rattle.thorin_errors.specs.Errors.{ErrorValue, ParseUnitHeader, NotSplitUnit, DuplicateUnit}
use Rattle.thorin_errors.specs.Errors.{EmptyUnit, MultipleDebugInfoSection}
use Rattle.thorin_errors.specs.Errors.{MultipleDebugTypesSection}
use Rattle.thorin_errors.specs.Answers.{as_error}
use Rattle.thorin_identity.specs.Identity.{identity}
use Rattle.thorin_input.specs.Indexes.{Source, is_package}
use Rattle.thorin_input.specs.Names.{same_name}
use Rattle.thorin_input.specs.Rows.{unit_row, row_test, abbreviations_for}
use Rattle.thorin_input.specs.Used.{Used}

-- a unit that is added: whether it goes to info or to types, its bytes, and its row without their
-- range
pub record NewUnit : Type 0 where
  pub place : UnitSection
  pub bytes : List ℕ
  pub row : IndexEntry

-- the units that are added, in order, and the signatures of type units passed over whose bytes
-- differ from those kept
pub record New : Type 0 where
  pub units : List (DwarfObject × NewUnit)
  pub differing : List ℕ

-- what the units that an input adds depend on: the input, the row of a unit that has all of it, and
-- the bytes of each unit that the package has
pub record Adding : Type 0 where
  pub source : Source
  pub whole : IndexEntry
  pub held : List (DwarfObject × List ℕ)

-- the bytes of a unit that is added, or else that the package has
abbrev pub or_held : Option NewUnit → Option (List ℕ) → Option (List ℕ)
or_held (Some unit) held = Some unit.bytes
or_held None held = held

-- the bytes that are kept for a name
abbrev pub kept_bytes : List (DwarfObject × List ℕ) → List (DwarfObject × NewUnit) → DwarfObject
    → Option (List ℕ)
kept_bytes held units name = or_held (lookup (same_name name) units) (lookup (same_name name) held)

-- type units go where they stand, every other unit to info
abbrev pub place_for : DwarfObject → SectionKind → UnitSection
place_for (TypeUnit signature) kinds.Types = places.Types
place_for _ _ = places.Info

-- the units with one more, whose name none has; refused as `EmptyUnit` in a section whose address
-- isn't 0
unfoldable pub with_first : Adding → Used → DwarfObject → Header → New → Result New ErrorValue
with_first adding from name unit new =
    if from.address == 0
    then (row_test adding.source.indexes from.kind name unit >>= λ _.
    unit_row adding.source.indexes adding.whole name >>= λ row.
    Ok (record new {
      units = new.units ++ (
        name,
        record { place = place_for name from.kind; bytes = unit.whole.bytes; row = row },
      ) ∷ [];
    }))
    else Err (EmptyUnit (identifier_of name))

-- one more unit. A second compilation unit of a name is refused, a second type unit passed over
unfoldable pub with_unit : Option (List ℕ) → Adding → Used → DwarfObject → Header → New
    → Result New ErrorValue
with_unit (Some kept) adding from (Compilation id) unit new = Err (DuplicateUnit id.0)
with_unit (Some kept) adding from (TypeUnit signature) unit new =
    Ok (if bytes_eq kept unit.whole.bytes then new
    else record new { differing = new.differing ++ signature.0 ∷ [] })
with_unit None adding from name unit new = with_first adding from name unit new

-- the name of a unit that was read in a section
unfoldable pub name_for : Source → SectionKind → Header → Result DwarfObject ErrorValue
name_for source kind unit = do
  abbreviations ← abbreviations_for source kind unit
  found ← identity (section source.object.order abbreviations) unit
  ok_or found NotSplitUnit

-- what is read next of a section's units
unfoldable pub with_read : Adding → Used → New → Result Header ReadError → Result New ErrorValue
with_read adding from new read = do
  unit ← as_error ParseUnitHeader read
  name ← name_for adding.source from.kind unit
  with_unit (kept_bytes adding.held new.units name) adding from name unit new

-- all that is read of them
unfoldable pub with_each_read : Adding → Used → New → List (Result Header ReadError)
    → Result New ErrorValue
with_each_read adding from new [] = Ok new
with_each_read adding from new (read ∷ rest) = do
  next ← with_read adding from new read
  with_each_read adding from next rest

-- the kinds of section that units stand in
abbrev pub unit_section : SectionKind → Option UnitSection
unit_section kinds.Info = Some places.Info
unit_section kinds.Types = Some places.Types
unit_section _ = None

-- which sections of units came before
pub record SeenSections : Type 0 where
  pub info : Bool
  pub types : Bool

-- none did
abbrev pub none_met : SeenSections
none_met = record { info = false; types = false }

abbrev pub is_met : UnitSection → SeenSections → Bool
is_met places.Info met = met.info
is_met places.Types met = met.types

abbrev pub with_met : UnitSection → SeenSections → SeenSections
with_met places.Info met = record met { info = true }
with_met places.Types met = record met { types = true }

-- the error of a second section of info or of types
abbrev pub second_section : UnitSection → ErrorValue
second_section places.Info = MultipleDebugInfoSection
second_section places.Types = MultipleDebugTypesSection

-- a package has one section of units of each kind
unfoldable pub once_test : Adding → UnitSection → SeenSections → Result (Unit {0}) ErrorValue
once_test adding place met = if is_package adding.source.indexes && is_met place met
    then Err (second_section place) else Ok tt

-- the units of a section of units
unfoldable pub with_section_at : Adding → Used → UnitSection → SeenSections × New
    → Result (SeenSections × New) ErrorValue
with_section_at adding from place before = do
  _ ← once_test adding place before.0
  new ← with_each_read adding from before.1
      (units place (section adding.source.object.order from.bytes))
  Ok (with_met place before.0, new)

-- the units of a section; those of other kinds have none
abbrev pub with_section_in : Adding → Used → Option UnitSection → SeenSections × New
    → Result (SeenSections × New) ErrorValue
with_section_in adding from None before = Ok before
with_section_in adding from (Some place) before = with_section_at adding from place before

unfoldable pub with_section : Adding → SeenSections × New → Used
    → Result (SeenSections × New) ErrorValue
with_section adding before from = with_section_in adding from (unit_section from.kind) before

-- those of each of these sections, in file order
unfoldable pub with_each_section : Adding → SeenSections × New → List Used
    → Result (SeenSections × New) ErrorValue
with_each_section adding before [] = Ok before
with_each_section adding before (from ∷ others) = do
  next ← with_section adding before from
  with_each_section adding next others

-- the units that an input adds to what is there, or its first error
unfoldable pub new_units : Adding → Result New ErrorValue
new_units adding = do
  all ← with_each_section adding (
    none_met,
    record { units = []; differing = [] },
  ) adding.source.object.sections
  Ok all.1
