-- Ranges of a section that don't overlap, unless they are the same; and the same bytes of a unit
-- are read by the same abbreviations.
use Rattle.std.specs.Prelude.{◌≡◌, true, false, List, Some, ◌⊎◌, ◌+◌, ◌≤◌, Option, None}
use Rattle.std.specs.Prelude.{if◌then◌else◌, Bool}
use Rattle.dwp_table.specs.Columns.{contribution_kinds}
use Rattle.std.specs.List.{All, Contains}
use Rattle.dwp_base.specs.declared.section.Contribution.{Contribution}
use Rattle.dwp_base.specs.declared.section.SectionKind.{SectionKind}
use Rattle.dwp_base.specs.declared.section.SectionKind.TheVariants.{Abbrev}
use Rattle.dwp_index.specs.Package.{Package}
use Rattle.dwp_index.specs.declared.units.UnitEntry.{UnitEntry}
use Rattle.thorin_check.specs.Overlaps.{overlap, has_units, slot_range}
use Rattle.thorin_check.specs.declared.overlaps.Placed.{Placed}

-- where the rows that two slots name have the same bytes of a unit, they have the same
-- abbreviations
abbrev pub AreReadAlike : Package → SectionKind → (a b : UnitEntry) → Type 0
AreReadAlike pack kind a b = has_units kind ≡ true → (range : Contribution)
    → slot_range pack a kind ≡ Some range → slot_range pack b kind ≡ Some range
    → slot_range pack a Abbrev ≡ slot_range pack b Abbrev

-- the ranges of a section that the rows have which two slots name are the same, or don't overlap;
-- and they are read alike
abbrev pub AreApartIn : Package → List UnitEntry → SectionKind → Type 0
AreApartIn pack slots kind = (a b : UnitEntry) → Contains slots a → Contains slots b
    → (overlap (slot_range pack a kind) (slot_range pack b kind) ≡ false)
    × AreReadAlike pack kind a b

-- the same of each of these sections
abbrev pub AreApart : Package → List UnitEntry → List SectionKind → Type 0
AreApart pack slots kinds = All (AreApartIn pack slots) kinds

-- the same of all sections, or some ranges clash
abbrev pub AreApartOr : (clash : Bool) → Package → List UnitEntry → Type 0
AreApartOr clash pack slots = clash ≡ false → AreApart pack slots contribution_kinds

-- ---- ranges of a section in the order of their places

-- two ranges are the same, and so are the abbreviations of their rows
abbrev pub IsSame : Placed → Placed → Type 0
IsSame a b = (a.offset ≡ b.offset) × (a.size ≡ b.size) × (a.tables ≡ b.tables)

-- they are, or the first ends where the second begins, or before
abbrev pub IsApart : Placed → Placed → Type 0
IsApart a b = IsSame a b ⊎ (a.offset + a.size ≤ b.offset)

-- the abbreviations of a row, where a section has the bytes of units
abbrev pub tables_by : SectionKind → (abbreviations : Option Contribution) → Option Contribution
tables_by kind abbreviations = if has_units kind then abbreviations else None

-- a range is among some, with these abbreviations
abbrev pub HasRange : List Placed → Contribution → (tables : Option Contribution) → Type 0
HasRange ranges range tables = (placed : Placed) × Contains ranges placed
    × (placed.offset ≡ range.offset.0) × (placed.size ≡ range.size) × (placed.tables ≡ tables)

-- those of a section that the rows have which these slots name
abbrev pub HasRanges : Package → List UnitEntry → SectionKind → List Placed → Type 0
HasRanges pack slots kind ranges = (slot : UnitEntry) → Contains slots slot
    → (range : Contribution) → slot_range pack slot kind ≡ Some range
    → HasRange ranges range (tables_by kind (slot_range pack slot Abbrev))
