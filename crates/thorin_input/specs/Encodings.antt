-- The encoding of an input: that of its first unit; and the one encoding of all units, where there
-- is one (DWARF 5, 7.5.1).
use Rattle.std.specs.Prelude.{ℕ, Bool, true, false, not, ◌&&◌, ◌||◌, List, [], ◌∷◌, Option, Some}
use Rattle.std.specs.Prelude.{None, Result, Ok, Err, if◌then◌else◌}
use Rattle.std.specs.List.{list_all, list_any}
use Rattle.dwp_base.specs.Reading.{◌>>=◌}
use Rattle.dwp_base.specs.declared.endian.Endianness.{Endianness}
use Rattle.dwp_base.specs.declared.section.SectionKind.TheVariants.{Info, CuIndex, TuIndex}
use Rattle.dwp_base.specs.Sections.{same_kind}
use Rattle.dwp_elf_read.specs.Elf.{Elf}
use Rattle.dwp_bytes.specs.Input.{section}
use Rattle.dwp_bytes.specs.declared.encoding.Encoding.{Encoding}
use Rattle.dwp_bytes.specs.declared.error.ReadError.{ReadError}
use Rattle.dwp_units.specs.Units.{Unit, units}
use Rattle.dwp_units.specs.declared.unit.UnitSection.{UnitSection}
use Rattle.dwp_units.specs.declared.unit.UnitSection.TheVariants as places
use Rattle.thorin_index.specs.EntryTests.{same_encoding}
use Rattle.thorin_errors.specs.Errors.{ErrorValue, ParseUnitHeader, NoCompilationUnits}
use Rattle.thorin_input.specs.Indexes.{Source}
use Rattle.thorin_input.specs.NewUnits.{unit_section}
use Rattle.thorin_input.specs.Used.{Used, InputFile, opened, has_info, input_file_of, first}

-- the encoding of an input is that of its first unit
abbrev pub first_encoding : List (Result Unit ReadError) → Result Encoding ErrorValue
first_encoding [] = Err NoCompilationUnits
first_encoding (Ok unit ∷ others) = Ok unit.encoding
first_encoding (Err e ∷ others) = Err (ParseUnitHeader e)

unfoldable pub encoding_of : InputFile → Result Encoding ErrorValue
encoding_of object =
    first_encoding (units places.Info (section object.order (first Info object.sections)))

-- a unit that was read has this encoding
abbrev pub has_encoding : Encoding → Result Unit ReadError → Bool
has_encoding encoding (Ok unit) = same_encoding unit.encoding encoding
has_encoding encoding (Err e) = false

-- so has each unit of a section, where units stand in it
abbrev pub all_have : Encoding → Endianness → List ℕ → Option UnitSection → Bool
all_have encoding order bytes None = true
all_have encoding order bytes (Some place) =
    list_all (has_encoding encoding) (units place (section order bytes))

abbrev pub section_has : Encoding → Endianness → Used → Bool
section_has encoding order from = all_have encoding order from.bytes (unit_section from.kind)

-- each unit of an input has the input's encoding
abbrev pub are_alike : Source → Bool
are_alike source = list_all (section_has source.encoding source.object.order) source.object.sections

-- a section is an index
abbrev pub is_index : Used → Bool
is_index used = same_kind used.kind CuIndex || same_kind used.kind TuIndex

-- no section is one
abbrev pub is_plain : List Used → Bool
is_plain sections = not (list_any is_index sections)

-- the one encoding of all units of a plain object whose first unit has this encoding, where there
-- is one
abbrev pub one_encoding : InputFile → Encoding → Option Encoding
one_encoding object encoding =
    if is_plain object.sections && list_all (section_has encoding object.order) object.sections
    then Some encoding else None

unfoldable pub file_encoding : Elf → Result (Option Encoding) ErrorValue
file_encoding file = do
  object ← input_file_of file
  encoding ← encoding_of object
  Ok (one_encoding object encoding)

-- the same of an input's bytes; without an info section there is none
unfoldable pub own_encoding : List ℕ → Result (Option Encoding) ErrorValue
own_encoding bytes = do
  file ← opened bytes
  if has_info file then file_encoding file else Ok None

-- the one encoding of two groups of units that have one each
abbrev pub common : Option Encoding → Option Encoding → Option Encoding
common (Some a) (Some b) = if same_encoding a b then Some a else None
common _ _ = None
