-- A package that is made of plain objects of one encoding, each of which added a unit (DWARF 5,
-- 7.3.5).
use Rattle.std.specs.Prelude.{◌≡◌, ℕ, ◌+◌, ◌*◌, ◌<◌, true, ◌⊎◌, List, [], ◌∷◌, length, take, Some}
use Rattle.std.specs.Prelude.{Ok}
use Rattle.dwp_base.specs.declared.endian.Endianness.{Endianness}
use Rattle.dwp_base.specs.declared.section.Contribution.{Contribution}
use Rattle.dwp_base.specs.declared.section.SectionKind.{SectionKind}
use Rattle.dwp_base.specs.declared.section.SectionKind.TheVariants.{Info, Abbrev, StrOffsets}
use Rattle.dwp_bytes.specs.Encoding.{offset_size}
use Rattle.dwp_bytes.specs.Input.{Input, section}
use Rattle.dwp_bytes.specs.StringOffsets.{header_size}
use Rattle.dwp_bytes.specs.declared.encoding.Encoding.{Encoding}
use Rattle.dwp_units.specs.Units.{Unit as Header, unit_at}
use Rattle.dwp_elf.specs.Contents.{content_of}
use Rattle.dwp_index.specs.Package.{part_of, place_of}
use Rattle.thorin_identity.specs.Identity.{identity}
use Rattle.thorin_package_input.specs.PackagedOffsets.{rewritten_from}
use Rattle.thorin_index.specs.IndexText.{is_used}
use Rattle.thorin_index.specs.declared.entry.IndexEntry.{IndexEntry}
use Rattle.thorin_strings.specs.StringOffsets.{header_of}
use Rattle.dwp_strings.specs.Strings.{IsTable, data_of}
use Rattle.thorin_join.specs.Builder.{State}
use Rattle.dwp_elf.specs.Growing.{Contents}
use Rattle.thorin_input.specs.Format.{is_shared}
use Rattle.thorin_join.specs.StandApart.{EachRow}
use Rattle.thorin_input.specs.Held.{unit_bytes}
use Rattle.thorin_join.specs.State.{InProgress}

-- each shared section that has bytes has a part that some row names
abbrev pub HasNamedParts : InProgress → Type 0
HasNamedParts made = (kind : SectionKind) → is_shared kind ≡ true
    → 0 < length (content_of kind made.file.contents) → is_used made.rows kind ≡ true

-- a range of string offsets of so many bytes: some, which are whole entries behind a header that
-- can be written of them
pub record IsWholeRange (order : Endianness) (encoding : Encoding) (size : ℕ) : Type 0 where
  pub some : 0 < size
  pub count : ℕ
  pub long : size ≡ header_size encoding + count * offset_size encoding.format
  pub header : List ℕ
  pub written : header_of order encoding (count * offset_size encoding.format) ≡ Ok header

-- ranges that lie one directly behind the other, from one place to another
abbrev pub Tile : Endianness → Encoding → ℕ → List Contribution → ℕ → Type 0
Tile order encoding at [] end = at ≡ end
Tile order encoding at (r ∷ rs) end = (r.offset.0 ≡ at) × IsWholeRange order encoding r.size
    × Tile order encoding (at + r.size) rs end

abbrev pub IsAmong : Contribution → List Contribution → Type 0
IsAmong range [] = ⊥
IsAmong range (r ∷ rs) = (range ≡ r) ⊎ IsAmong range rs

-- a row has one of these ranges of string offsets, or none
abbrev pub HasOneOf : List Contribution → IndexEntry → Type 0
HasOneOf ranges row =
    (range : Contribution) → row.debug_str_offsets ≡ Some range → IsAmong range ranges

-- some row has this range of string offsets
abbrev pub IsOfSome : Contribution → List IndexEntry → Type 0
IsOfSome range [] = ⊥
IsOfSome range (row ∷ rows) = (row.debug_str_offsets ≡ Some range) ⊎ IsOfSome range rows

-- such ranges of a section, rewritten in turn where no string is yet, give just these strings, in
-- their order, whatever strings follow them in the section of strings
abbrev pub GiveStrings : Endianness → Encoding → List ℕ → List Contribution → List (List ℕ) → Type 0
GiveStrings order encoding bytes ranges strings =
    (final : List (List ℕ)) → IsTable final → take (length strings) final ≡ strings
    → (written : List ℕ)
    × (rewritten_from order encoding (data_of final) bytes 0 ranges [] ≡ Ok (written, strings))

-- the ranges of string offsets that rows have fill their section, and none lies over another; and
-- they give the package's strings
pub record HasTiledOffsets (encoding : Encoding) (made : InProgress) : Type 0 where
  pub ranges : List Contribution
  pub tile : Tile made.file.order encoding 0 ranges
      (length (content_of StrOffsets made.file.contents))
  pub rows : EachRow (HasOneOf ranges) made.rows
  pub named : (range : Contribution) → IsAmong range ranges → IsOfSome range made.rows
  pub strings : GiveStrings made.file.order encoding (content_of StrOffsets made.file.contents)
      ranges made.strings

-- a row's unit, read of its own bytes alone, has the encoding, and by the row's abbreviations the
-- row's name
abbrev pub NamesItself : Endianness → Encoding → Contents → IndexEntry → Type 0
NamesItself order encoding contents row = (unit : Header) (rest : Input) → unit_at
    (place_of row.id row.debug_types) (section order (unit_bytes contents row)) ≡ Ok (unit, rest)
    → (unit.encoding ≡ encoding) × (identity
    (section order (part_of (content_of Abbrev contents) row.debug_abbrev)) unit ≡ Ok (Some row.id))

-- so does each unit of a package
abbrev pub HasNamedUnits : Encoding → InProgress → Type 0
HasNamedUnits encoding made =
    EachRow (NamesItself made.file.order encoding made.file.contents) made.rows

-- what is so of a package of plain objects of this encoding; of its units some stand in info
pub record IsPlain (encoding : Encoding) (made : InProgress) : Type 0 where
  pub named : HasNamedParts made
  pub offsets : HasTiledOffsets encoding made
  pub units : HasNamedUnits encoding made
  pub info : 0 < length made.rows → 0 < length (content_of Info made.file.contents)

-- so is a builder's package, where its inputs have one encoding
pub record HoldsPlain (state : State) : Type 0 where
  pub made : (encoding : Encoding) (made : InProgress) → state.own ≡ Some encoding
      → state.begun ≡ Some made → IsPlain encoding made
