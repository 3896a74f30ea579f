-- Ranges of units that overlap: each byte of a section belongs to one contribution, which several
-- units may share (DWARF 5, 7.3.5).
use Rattle.std.specs.Prelude.{◌≡◌, ◌⊎◌, ℕ, ◌+◌, Bool, true, false, ◌&&◌, ◌||◌, ◌==◌, not, List}
use Rattle.std.specs.Prelude.{◌++◌, codes, nat_lt, nat_le, Option, Some, None, is_some, Result, Ok}
use Rattle.std.specs.Prelude.{Err}
use Rattle.dwp_base.specs.Sections.{name_of}
use Rattle.dwp_base.specs.declared.section.Contribution.{Contribution}
use Rattle.dwp_base.specs.declared.section.SectionKind.{SectionKind}
use Rattle.dwp_base.specs.declared.section.SectionKind.TheVariants.{Abbrev, Info, Types}
use Rattle.dwp_bytes.specs.declared.error.ReadError.{ReadError}
use Rattle.dwp_index.specs.Index.{Index, Ranges, row_in, range_in}
use Rattle.dwp_index.specs.Package.{Package, FoundUnit, found, index_for}
use Rattle.dwp_index.specs.declared.units.UnitEntry.{UnitEntry}
use Rattle.dwp_table.specs.Objects.{identifier_of}
use Rattle.dwp_table.specs.declared.object.DwarfObject.{DwarfObject}
use Rattle.thorin_print.specs.Lines.{hex16}
use Rattle.thorin_find.specs.Lines.{short_kind}

-- a range begins inside another
abbrev pub begins_inside : Contribution → Contribution → Bool
begins_inside a b =
    nat_le b.offset.0 a.offset.0 && nat_lt a.offset.0 (b.offset.0 + b.size)

-- two ranges of a section overlap: they aren't the same, and one begins inside the other
abbrev pub overlap : Option Contribution → Option Contribution → Bool
overlap (Some a) (Some b) =
    not (a.offset.0 == b.offset.0 && a.size == b.size) && (begins_inside a b || begins_inside b a)
overlap _ _ = false

-- two ranges are the same, or both are absent
abbrev pub same_range : Option Contribution → Option Contribution → Bool
same_range (Some a) (Some b) = a.offset.0 == b.offset.0 && a.size == b.size
same_range None None = true
same_range _ _ = false

-- a section has the bytes of units
abbrev pub has_units : SectionKind → Bool
has_units Info = true
has_units Types = true
has_units kind = false

-- two rows have the same bytes of a unit, and other abbreviations: a unit's header names the one
-- table by which it is read (DWARF 5, 7.5.1.1)
abbrev pub differ_in_tables : SectionKind → (a b : Ranges) → Bool
differ_in_tables kind a b = has_units kind && is_some (range_in a kind)
    && same_range (range_in a kind) (range_in b kind)
    && not (same_range (range_in a Abbrev) (range_in b Abbrev))

-- the range that the row which a slot names has of a section
abbrev pub row_range : Result Ranges ReadError → SectionKind → Option Contribution
row_range (Ok row) kind = range_in row kind
row_range (Err cause) kind = None

abbrev pub range_by_index : Option Index → (row : ℕ) → SectionKind → Option Contribution
range_by_index None row kind = None
range_by_index (Some index) row kind = row_range (row_in index row) kind

abbrev pub slot_range : Package → UnitEntry → SectionKind → Option Contribution
slot_range pack slot kind = range_by_index (index_for pack slot.object) slot.row kind

-- what is told of a unit whose range of a section overlaps that of another
abbrev pub overlap_text : SectionKind → DwarfObject → List ℕ
overlap_text kind other = codes "its range of " ++ (name_of kind ++ (codes " overlaps that of "
    ++ (short_kind other ++ (codes " 0x" ++ hex16 (identifier_of other)))))

-- what is told of a unit that shares its bytes with another, but not the abbreviations
abbrev pub tables_text : SectionKind → DwarfObject → List ℕ
tables_text kind other = codes "its range of " ++ (name_of kind ++ (codes " is that of "
    ++ (short_kind other ++ (codes " 0x" ++ (hex16 (identifier_of other)
    ++ codes ", with other abbreviations")))))

-- what is told of a unit of one row and another of a second one: that their ranges of a section
-- overlap, or that they share one, and not the abbreviations
abbrev pub IsClashText : SectionKind → (other : DwarfObject) → (a b : Ranges) → List ℕ → Type 0
IsClashText kind other a b text =
    ((overlap (range_in a kind) (range_in b kind) ≡ true) × (text ≡ overlap_text kind other))
    ⊎ ((differ_in_tables kind a b ≡ true) × (text ≡ tables_text kind other))

-- the same of a unit, and of the one that a look-up in a package finds under an identifier
pub record IsClash (pack : Package) (unit : FoundUnit) (text : List ℕ) : Type 0 where
  pub kind : SectionKind
  pub other : DwarfObject
  pub second : FoundUnit
  pub is_found : found pack other ≡ Ok (Some second)
  pub is : IsClashText kind other unit.row second.row text
