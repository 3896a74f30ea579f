-- The units of a package that is made: what a reader would find under each name, and that it can be
-- read (DWARF 5, 7.3.5.3; the GNU page DebugFissionDWP).
use Rattle.std.specs.Prelude.{[], AllPairs, false, length, List, map, None, Ok, Option, slice_get}
use Rattle.std.specs.Prelude.{Some, take, true, ℕ, ◌+◌, ◌<◌, ◌∷◌, ◌≡◌, ◌≤◌}
use Rattle.std.specs.Result.{result_unwrap_or}
use Rattle.dwp_base.specs.declared.section.SectionKind.{SectionKind}
use Rattle.dwp_base.specs.declared.section.SectionKind.TheVariants.{CuIndex, Str, StrOffsets}
use Rattle.dwp_base.specs.declared.section.SectionKind.TheVariants.{TuIndex, Types}
use Rattle.dwp_base.specs.declared.section.Contribution.{Contribution}
use Rattle.dwp_base.specs.declared.endian.Endianness.{Endianness}
use Rattle.dwp_elf.specs.Contents.{content_of}
use Rattle.dwp_bytes.specs.StringOffsets.{string_in}
use Rattle.dwp_bytes.specs.declared.encoding.Encoding.{Encoding}
use Rattle.dwp_units.specs.declared.unit.UnitSection.{UnitSection}
use Rattle.dwp_index.specs.Package.{encoding_in, kind_of, part_of, place_of}
use Rattle.dwp_table.specs.declared.object.DwarfObject.{DwarfObject}
use Rattle.dwp_strings.specs.Strings.{data_of, IsTable}
use Rattle.thorin_index.specs.Entries.{contribution_to}
use Rattle.thorin_index.specs.declared.entry.IndexEntry.{IndexEntry}
use Rattle.thorin_join.specs.Builder.{State}
use Rattle.dwp_elf.specs.Growing.{Contents}
use Rattle.thorin_join.specs.Laid.{IsLaid}
use Rattle.thorin_join.specs.Meaning.{contributions_by, Meaning, Members}
use Rattle.thorin_input.specs.Names.{same_name}
use Rattle.thorin_input.specs.Format.{is_copied}
use Rattle.thorin_input.specs.Held.{unit_bytes}
use Rattle.thorin_join.specs.State.{InProgress, names_of}
use Rattle.thorin_join.specs.Strings.{strings_of}

-- all that belongs to the unit of a row: what stands in the row's ranges, and the strings that its
-- string offsets name
abbrev pub meaning_at : Endianness → Contents → List (List ℕ) → IndexEntry → Meaning
meaning_at order contents strings row = record {
  bytes = unit_bytes contents row;
  contributions = contributions_by (λ kind. part_of (content_of kind contents)
      (contribution_to kind row));
  strings = result_unwrap_or (strings_of order row.encoding (data_of strings)
      (part_of (content_of StrOffsets contents) (contribution_to StrOffsets row))) [];
  encoding = row.encoding;
}

-- the units of a package, in order of acceptance
abbrev pub units_of : InProgress → Members
units_of made = map {B = DwarfObject × Meaning} (λ row.
    (row.id, meaning_at made.file.order made.file.contents made.strings row)) made.rows

-- those of a builder
abbrev pub units_begun : Option InProgress → Members
units_begun None = []
units_begun (Some made) = units_of made

abbrev pub units_in : State → Members
units_in state = units_begun state.begun

-- the ranges of a row have bytes and lie inside the contents
pub record LieInside (contents : Contents) (row : IndexEntry) : Type 0 where
  pub inside : (kind : SectionKind) (range : Contribution) → contribution_to kind row ≡ Some range
      → range.offset.0 + range.size ≤ length (content_of kind contents)
  pub some : (kind : SectionKind) (range : Contribution) → contribution_to kind row ≡ Some range
      → 0 < range.size

-- what a unit shares with others stands in the ranges of its row, whatever strings are added
pub record Shares (order : Endianness) (contents : Contents) (strings : List (List ℕ))
    (row : IndexEntry) (unit : Meaning) : Type 0 where
  pub content : (kind : SectionKind) (copied : is_copied kind ≡ true) → part_of
      (content_of kind contents) (contribution_to kind row) ≡ unit.contributions kind copied
  pub string : (final : List (List ℕ)) → IsTable final
      → take (length strings) final ≡ strings → (i : ℕ)
      → string_in order unit.encoding (data_of final) (part_of (content_of StrOffsets contents)
      (contribution_to StrOffsets row)) i ≡ Ok (slice_get unit.strings i)

-- a unit's own bytes stand in a row's range of info or of types, and their header can be read
pub record Owns (order : Endianness) (contents : Contents) (name : DwarfObject) (row : IndexEntry)
    (unit : Meaning) : Type 0 where
  pub place : UnitSection
  pub place_is : place ≡ place_of name (contribution_to Types row)
  pub bytes : part_of (content_of (kind_of place) contents) (contribution_to (kind_of place) row)
      ≡ unit.bytes
  pub encoding : Encoding
  pub header : encoding_in order place unit.bytes ≡ Ok encoding

-- a row is that of a unit
pub record IsRowOf (order : Endianness) (contents : Contents) (strings : List (List ℕ))
    (row : IndexEntry) (member : DwarfObject × Meaning) : Type 0 where
  pub name : row.id ≡ member.0
  pub encoding : row.encoding ≡ member.1.encoding
  pub lie : LieInside contents row
  pub shares : Shares order contents strings row member.1
  pub owns : Owns order contents member.0 row member.1

-- each row is that of the unit at its place
abbrev pub AreRowsOf : Endianness → Contents → List (List ℕ) → List IndexEntry → Members → Type 0
AreRowsOf order contents strings [] [] = Unit {0}
AreRowsOf order contents strings [] (m ∷ ms) = ⊥
AreRowsOf order contents strings (r ∷ rs) [] = ⊥
AreRowsOf order contents strings (r ∷ rs) (m ∷ ms) =
    IsRowOf order contents strings r m × AreRowsOf order contents strings rs ms

-- a package has these units
pub record Represents (made : InProgress) (members : Members) : Type 0 where
  pub table : IsTable made.strings
  pub no_strings : content_of Str made.file.contents ≡ []
  pub no_compilations : content_of CuIndex made.file.contents ≡ []
  pub no_types : content_of TuIndex made.file.contents ≡ []
  pub rows : AreRowsOf made.file.order made.file.contents made.strings made.rows members

-- no two places have one name
abbrev pub AreApart : List DwarfObject → Type 0
AreApart names = AllPairs (λ a b. same_name a b ≡ false) names

-- a package has its units, none twice, and they lie one after another
pub record IsSound (made : InProgress) : Type 0 where
  pub units : Represents made (units_of made)
  pub apart : AreApart (names_of made)
  pub laid : IsLaid made

-- so has a builder, where an input has begun a package
abbrev pub IsSoundBegun : Option InProgress → Type 0
IsSoundBegun None = Unit {0}
IsSoundBegun (Some made) = IsSound made
