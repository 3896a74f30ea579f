-- What a package means as an input, in the terms of the reader of packages (DWARF 5, 7.3.5; the GNU
-- page DebugFissionDWP).
use Rattle.std.specs.Prelude.{Bool, Err, find, if◌then◌else◌, is_none, is_some, List, map, None, Ok}
use Rattle.std.specs.Prelude.{Option, Result, Some, ℕ, ◌||◌, ◌≡◌}
use Rattle.std.specs.Option.{option_and_then}
use Rattle.dwp_base.specs.declared.section.SectionKind.TheVariants.{Str, StrOffsets}
use Rattle.dwp_bytes.specs.declared.encoding.Encoding.{Encoding}
use Rattle.dwp_bytes.specs.declared.error.ReadError.{ReadError}
use Rattle.dwp_elf_read.specs.Elf.{Elf}
use Rattle.dwp_index.specs.Contents.{content}
use Rattle.dwp_index.specs.Index.{range_in, Ranges}
use Rattle.dwp_index.specs.Package.{index_for, is_outside, Package, row_bytes}
use Rattle.dwp_table.specs.declared.object.DwarfObject.{DwarfObject}
use Rattle.thorin_input.specs.Encodings.{encoding_of}
use Rattle.thorin_input.specs.Indexes.{Source}
use Rattle.thorin_input.specs.Rows.{own_contribution}
use Rattle.thorin_input.specs.Used.{input_file_of, opened}
use Rattle.thorin_join.specs.Meaning.{contributions_by, Meaning, placed_row, shared_kinds}
use Rattle.thorin_join.specs.Meaning.{source_units, UnitRead}
use Rattle.thorin_join.specs.Strings.{strings_of}

-- a package has an index
abbrev pub has_index : Package → Bool
has_index pack = is_some pack.compilations || is_some pack.types

-- the ranges of a row that units share lie inside the package's sections
abbrev pub lies_in : Package → Ranges → Bool
lies_in pack row =
    is_none (find (λ kind. is_outside (content pack.contents kind) (range_in row kind))
    shared_kinds)

-- the unit of these bytes and of a row, whose strings are these, where they can be read
abbrev pub unit_with : Package → Encoding → List ℕ → Ranges → Result (List (List ℕ)) ReadError
    → Option Meaning
unit_with pack encoding bytes row (Ok strings) = Some (record {
  bytes = bytes;
  contributions = contributions_by (row_bytes pack.contents row);
  strings = strings;
  encoding = encoding;
})
unit_with pack encoding bytes row (Err e) = None

-- nothing where a range lies outside its section, or a string can't be read
abbrev pub unit_of_row : Package → Encoding → List ℕ → Ranges → Option Meaning
unit_of_row pack encoding bytes row =
    if lies_in pack row
    then unit_with pack encoding bytes row (strings_of pack.order encoding
    (content pack.contents Str)
    (row_bytes pack.contents row StrOffsets))
    else None

-- a unit that stands somewhere, by the row of its place in the index of its kind; nothing without
-- that row
abbrev pub unit_of_package : Package → Encoding → DwarfObject × UnitRead → Option Meaning
unit_of_package pack encoding read =
    option_and_then (λ row. unit_of_row pack encoding read.1.unit.whole.bytes row)
    (placed_row (index_for pack read.0) read.1.from (own_contribution read.1.unit))

-- what bytes mean as an input is read of a package: each unit that stands in their sections, in
-- file order, has what stands in the package's row of its place
pub record MeansByReader (bytes : List ℕ) (pack : Package)
    (meant : List (DwarfObject × Option Meaning)) : Type 0 where
  pub file : Elf
  pub opens : opened bytes ≡ Ok file
  pub source : Source
  pub used : input_file_of file ≡ Ok source.object
  pub first : encoding_of source.object ≡ Ok source.encoding
  pub compilations : source.indexes.compilations ≡ pack.compilations
  pub types : source.indexes.types ≡ pack.types
  pub units : List (DwarfObject × UnitRead)
  pub stand : source_units source ≡ Ok units
  pub are : meant ≡ map {B = DwarfObject × Option Meaning}
      (λ u. (u.0, unit_of_package pack source.encoding u)) units
