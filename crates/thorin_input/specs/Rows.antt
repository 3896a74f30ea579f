-- The rows that units get: each unit's contribution to each section of its input, where it comes
-- to lie in the package (DWARF 5, 7.3.5.3).
use Rattle.std.specs.Prelude.{Bool, Err, false, if◌then◌else◌, length, List, None, not, Ok, Option}
use Rattle.std.specs.Prelude.{Result, Some, true, ℕ, ◌&&◌, ◌==◌, ◌≡◌, ◌+◌, ◌<◌, ◌^◌}
use Rattle.std.specs.Option.{ForSome}
use Rattle.dwp_base.specs.declared.section.SectionKind.{SectionKind}
use Rattle.dwp_base.specs.declared.section.SectionKind.TheVariants.{Abbrev}
use Rattle.dwp_base.specs.declared.section.Contribution.{Contribution}
use Rattle.dwp_base.specs.Reading.{read_each, ◌>>=◌}
use Rattle.dwp_base.specs.ByKind.{value_of}
use Rattle.dwp_base.specs.Sections.{all_kinds, name_of}
use Rattle.dwp_bytes.specs.declared.encoding.Encoding.{Encoding}
use Rattle.dwp_units.specs.Units.{Unit as Header}
use Rattle.dwp_units.specs.declared.unit.UnitType.{UnitType}
use Rattle.dwp_units.specs.declared.unit.UnitType.TheVariants as unit_types
use Rattle.dwp_index.specs.Index.{Index, range_in, Ranges, row_in}
use Rattle.dwp_index.specs.Package.{is_outside, part_of}
use Rattle.dwp_table.specs.Objects.{identifier_of}
use Rattle.dwp_table.specs.declared.object.DwarfObject.{DwarfObject}
use Rattle.dwp_table.specs.declared.object.DwarfObject.TheVariants.{Compilation}
use Rattle.thorin_input.specs.Adjusting.{adjusted}
use Rattle.thorin_input.specs.Format.{is_shared}
use Rattle.thorin_index.specs.Entries.{contribution_to, entry_by}
use Rattle.thorin_index.specs.declared.entry.IndexEntry.{IndexEntry}
use Rattle.thorin_package_input.specs.RowPlaces.{row_by_place}
use Rattle.thorin_errors.specs.Errors.{BadContribution, ErrorValue, RowNotInIndex, UnitNotInIndex}
use Rattle.thorin_errors.specs.Answers.{as_error}
use Rattle.dwp_elf.specs.Growing.{Contents, contribution_put}
use Rattle.thorin_input.specs.Parts.{joined_parts}
use Rattle.thorin_input.specs.Indexes.{index_for, Indexes, is_package, looked_up, Source}
use Rattle.thorin_input.specs.Used.{first}

-- the end of a range has 64 bits
abbrev pub EndFits : Option Contribution → Type 0
EndFits range = ForSome range (λ c. c.offset.0 + c.size < 2 ^ 64)

-- so have those of a row, but for the unit's own bytes
abbrev pub EndsFit : IndexEntry → Type 0
EndsFit row = (kind : SectionKind) → is_shared kind ≡ true → EndFits (contribution_to kind row)

-- where the whole of each section that units share comes to lie, once parts are added to contents:
-- as the row of a unit that has all of it
unfoldable pub whole_row : Encoding → Contents → Contents → IndexEntry
whole_row encoding before parts = entry_by encoding (Compilation (record { 0 = 0 })) (λ kind.
    if is_shared kind then contribution_put kind (joined_parts kind parts) before else None)

-- a unit's contribution to a section which as a whole lies there in the package
abbrev pub adjusted_contribution : Indexes → DwarfObject → SectionKind → Option Contribution
    → Result (Option Contribution) ErrorValue
adjusted_contribution indexes name kind whole = adjusted (record {
  compilation = indexes.compilations;
  types = indexes.types;
  section = kind;
}) name whole

-- a unit's contribution to a section: adjusted where units share the section, else that of the
-- whole row as it is
abbrev pub unit_contribution : Indexes → DwarfObject → SectionKind → Option Contribution
    → Result (Option Contribution) ErrorValue
unit_contribution indexes name kind whole =
    if is_shared kind then adjusted_contribution indexes name kind whole else Ok whole

-- the row of a unit but for its own bytes: its contribution to each section that units share
unfoldable pub unit_row : Indexes → IndexEntry → DwarfObject → Result IndexEntry ErrorValue
unit_row indexes whole name = do
  contributions ← read_each (λ kind. unit_contribution indexes name kind
      (contribution_to kind whole))
      all_kinds
  Ok (entry_by whole.encoding name (value_of None contributions))

-- a unit's range of its section
abbrev pub own_contribution : Header → Contribution
own_contribution unit =
    record { offset = record { 0 = unit.whole.place }; size = length unit.whole.bytes }

-- the number of the row by place: the lowest of the index of a name's kind whose range in the
-- section is exactly the unit's
abbrev pub number_by_place : Indexes → SectionKind → DwarfObject → Header → Option ℕ
number_by_place indexes kind name unit = row_by_place (index_for indexes name) kind
    (own_contribution unit)

-- two row numbers are there, and are the same
abbrev pub is_same_row : Option ℕ → Option ℕ → Bool
is_same_row (Some a) (Some b) = a == b
is_same_row _ _ = false

-- in a package the row by place is the one that looking the unit's identifier up gives
unfoldable pub row_test : Indexes → SectionKind → DwarfObject → Header
    → Result (Unit {0}) ErrorValue
row_test indexes kind name unit =
    if not (is_package indexes) then Ok tt
    else (if is_same_row (number_by_place indexes kind name unit)
    (looked_up (index_for indexes name) (identifier_of name)) then Ok tt
    else Err (UnitNotInIndex (identifier_of name)))

-- the abbreviations of a row; none where it has none. Before its unit's identity is known, errors
-- have the number 0
unfoldable pub row_abbreviations : List ℕ → Ranges → Result (List ℕ) ErrorValue
row_abbreviations bytes row =
    if is_outside bytes (range_in row Abbrev) then Err (BadContribution (name_of Abbrev) 0)
    else Ok (part_of bytes (range_in row Abbrev))

-- those of the row of a number of an index; a number by place is that of a row
unfoldable pub numbered_abbreviations : List ℕ → Option Index → Option ℕ
    → Result (List ℕ) ErrorValue
numbered_abbreviations bytes (Some index) (Some number) = do
  row ← as_error (λ e. RowNotInIndex e number) (row_in index number)
  row_abbreviations bytes row
numbered_abbreviations bytes _ _ = Err (UnitNotInIndex 0)

-- a compile unit, whose identity is in its root entry
abbrev pub is_compile : UnitType → Bool
is_compile unit_types.Compilation = true
is_compile _ = false

-- the abbreviations that a unit's identity is read with: those of the first section, for a compile
-- unit of a package those of its row by place
unfoldable pub abbreviations_for : Source → SectionKind → Header → Result (List ℕ) ErrorValue
abbreviations_for source kind unit =
    if is_package source.indexes && is_compile unit.unit_type
    then numbered_abbreviations (first Abbrev source.object.sections) source.indexes.compilations
    (row_by_place source.indexes.compilations kind (own_contribution unit))
    else Ok (first Abbrev source.object.sections)
