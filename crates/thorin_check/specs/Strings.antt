-- The strings of a package's units, by the string offsets that they share (DWARF 5, 7.26).
use Rattle.std.specs.Prelude.{◌≡◌, ◌⊎◌, Bool, true, false, List, Option, Some, Result, Ok}
use Rattle.std.specs.Prelude.{option_map, ℕ, ◌+◌, ◌*◌, ◌^◌, ◌<◌, if◌then◌else◌, None}
use Rattle.std.specs.List.{Contains}
use Rattle.dwp_base.specs.declared.section.Contribution.{Contribution}
use Rattle.dwp_base.specs.declared.section.SectionKind.TheVariants.{StrOffsets}
use Rattle.dwp_bytes.specs.declared.encoding.Encoding.{Encoding}
use Rattle.dwp_bytes.specs.declared.encoding.Format.{Format}
use Rattle.dwp_bytes.specs.declared.encoding.Format.TheVariants.{Dwarf32, Dwarf64}
use Rattle.dwp_index.specs.Index.{range_in}
use Rattle.dwp_index.specs.Package.{Package, FoundUnit, found}
use Rattle.dwp_index.specs.declared.error.PackageError.{PackageError}
use Rattle.dwp_table.specs.declared.object.DwarfObject.{DwarfObject}
use Rattle.thorin_check.specs.Ends.{AllEnd}
use Rattle.thorin_check.specs.declared.strings.StringRange.{StringRange}

-- ---- ranges of string offsets

abbrev pub is_wide : Format → Bool
is_wide Dwarf32 = false
is_wide Dwarf64 = true

abbrev pub range_by : Encoding → Contribution → StringRange
range_by encoding range = record {
  offset = range.offset.0;
  size = range.size;
  version = encoding.version;
  format = encoding.format;
}

-- the string offsets of a unit, and how they are read: units that have the same ones have the same
-- strings
abbrev pub range_of : FoundUnit → Option StringRange
range_of unit = option_map (range_by unit.encoding) (range_in unit.row StrOffsets)

-- ---- units whose strings are checked

-- the unit that is found under an identifier has the string offsets
abbrev pub HasOffsets : Package → DwarfObject → StringRange → Type 0
HasOffsets pack object range =
    (unit : FoundUnit) × (found pack object ≡ Ok (Some unit)) × (range_of unit ≡ Some range)

-- two units don't have the same ones
abbrev pub ShareNone : Package → (a b : DwarfObject) → Type 0
ShareNone pack a b = (range : StringRange) → HasOffsets pack a range → HasOffsets pack b range → ⊥

-- one of these units has the string offsets
pub record IsRangeOfOne (pack : Package) (objects : List DwarfObject) (range : StringRange)
    : Type 0 where
  pub object : DwarfObject
  pub is_one : Contains objects object
  pub unit : FoundUnit
  pub is_found : found pack object ≡ Ok (Some unit)
  pub is_range : range_of unit ≡ Some range

-- a unit's strings can all be read, or are those of one of these units
abbrev pub HasStringsOf : Package → List DwarfObject → FoundUnit → Type 0
HasStringsOf pack objects unit = AllEnd unit
    ⊎ ((range : StringRange) × (range_of unit ≡ Some range) × IsRangeOfOne pack objects range)

-- the same of a unit that is found
abbrev pub HasStringsIn : Package → List DwarfObject → Result (Option FoundUnit)
    PackageError → Type 0
HasStringsIn pack objects (Ok (Some unit)) = HasStringsOf pack objects unit
HasStringsIn pack objects _ = Unit {0}

-- ---- string offsets in order, so that the same ones stand together

-- the numbers of string offsets, as one
abbrev pub number_of : StringRange → ℕ
number_of range = ((range.offset * 2 ^ 64 + range.size) * 2 ^ 16 + range.version) * 2
    + (if is_wide range.format then 1 else 0)

-- string offsets come behind others, if there are some
abbrev pub IsBehind : Option StringRange → StringRange → Type 0
IsBehind None range = Unit {0}
IsBehind (Some before) range = number_of before < number_of range
