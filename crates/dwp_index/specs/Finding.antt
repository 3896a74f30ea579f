-- What looking a unit up in a package gives, where the index of its kind is a table of distinct
-- identifiers (DWARF 5, 7.3.5.3).
use Rattle.std.specs.Prelude.{◌≡◌, ◌≢◌, ℕ, ◌+◌, ◌<◌, ◌≤◌, List, length, slice_index, Option, Some}
use Rattle.std.specs.Prelude.{Ok}
use Rattle.std.specs.Option.{option_map, option_map_or}
use Rattle.dwp_base.specs.declared.section.SectionKind.{SectionKind}
use Rattle.dwp_base.specs.declared.section.SectionKind.TheVariants as kinds
use Rattle.dwp_base.specs.declared.section.Contribution.{Contribution}
use Rattle.dwp_bytes.specs.declared.encoding.Encoding.{Encoding}
use Rattle.dwp_units.specs.declared.unit.UnitSection.{UnitSection}
use Rattle.dwp_table.specs.Objects.{identifier_of}
use Rattle.dwp_table.specs.Table.{IsIndex}
use Rattle.dwp_table.specs.declared.object.DwarfObject.{DwarfObject}
use Rattle.dwp_index.specs.Contents.{Sections, content}
use Rattle.dwp_index.specs.Index.{Index, Ranges, row_in, range_in}
use Rattle.dwp_index.specs.Package.{Package, FoundUnit, place_of, kind_of, row_bytes, encoding_in}
use Rattle.dwp_index.specs.Package.{index_for, found_counted, found}

-- where a unit's own bytes stand, and these bytes
abbrev pub own_place : DwarfObject → Ranges → UnitSection
own_place object row = place_of object (range_in row kinds.Types)

abbrev pub own_bytes : Sections → DwarfObject → Ranges → List ℕ
own_bytes contents object row = row_bytes contents row (kind_of (own_place object row))

-- the ranges of a row lie inside their sections
abbrev pub LiesInside : Sections → Ranges → Type 0
LiesInside contents row = (kind : SectionKind) (range : Contribution)
    → range_in row kind ≡ Some range → range.offset.0 + range.size ≤ length (content contents kind)

-- the unit of a row number and its row, with this encoding in its header
abbrev pub unit_of : Package → DwarfObject → ℕ → Ranges → Encoding → FoundUnit
unit_of pack object number row encoding = record {
  order = pack.order;
  contents = pack.contents;
  number = number;
  row = row;
  bytes = own_bytes pack.contents object row;
  encoding = encoding;
}

-- the index of an object's kind is one of these distinct identifiers
pub record HasIndex (pack : Package) (object : DwarfObject) (ids : List ℕ)
    (index : Index) : Type 0 where
  pub index_is : index_for pack object ≡ Some index
  pub slots : IsIndex ids index.signatures index.rows

-- the object is the one of row r + 1: its ranges lie inside their sections, and its header can be
-- read
pub record IsUnitOf (pack : Package) (object : DwarfObject) (ids : List ℕ) (index : Index) (r : ℕ)
    (row : Ranges) (encoding : Encoding) : Type 0 where
  pub within : r < length ids
  pub named : slice_index ids r ≡ identifier_of object
  pub row_is : row_in index (r + 1) ≡ Ok row
  pub inside : LiesInside pack.contents row
  pub header : encoding_in pack.order (own_place object row) (own_bytes pack.contents object row)
      ≡ Ok encoding

-- no row is the object's
abbrev pub IsNotNamed : DwarfObject → List ℕ → Type 0
IsNotNamed object ids = (r : ℕ) → r < length ids → slice_index ids r ≢ identifier_of object

-- looking the object up gives this unit or none, after at most so many slots
pub record GivesWithin (pack : Package) (object : DwarfObject) (unit : Option FoundUnit)
    (most : ℕ) : Type 0 where
  pub count : ℕ
  pub few : count ≤ most
  pub counted : found_counted pack object ≡ Ok (unit, count)
  pub uncounted : found pack object ≡ Ok unit

-- the row number of what was found
abbrev pub row_number : Option FoundUnit → Option ℕ
row_number unit = option_map (λ u. u.number) unit

-- how many slots the index of an object's kind has; none without an index
abbrev pub slots_for : Package → DwarfObject → ℕ
slots_for pack object = option_map_or (λ index. length index.rows) (index_for pack object) 0
