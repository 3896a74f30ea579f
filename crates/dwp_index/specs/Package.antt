-- What a package file means: the units that its indexes name (DWARF 5, 7.3.5; the
-- GNU page DebugFissionDWP).
use Rattle.std.specs.Prelude.{ℕ, ◌+◌, Bool, false, not, List, [], length, slice_range, Option, Some}
use Rattle.std.specs.Prelude.{slice_get, None, Result, Ok, Err, ◌==◌, nat_le, if◌then◌else◌}
use Rattle.std.specs.List.{find}
use Rattle.dwp_base.specs.Reading.{◌>>=◌}
use Rattle.dwp_base.specs.declared.endian.Endianness.{Endianness}
use Rattle.dwp_base.specs.declared.section.SectionKind.{SectionKind}
use Rattle.dwp_base.specs.declared.section.SectionKind.TheVariants as kinds
use Rattle.dwp_base.specs.declared.section.Contribution.{Contribution}
use Rattle.dwp_elf_read.specs.Elf.{elf_of}
use Rattle.dwp_bytes.specs.Input.{section}
use Rattle.dwp_bytes.specs.declared.encoding.Encoding.{Encoding}
use Rattle.dwp_bytes.specs.declared.error.ReadError.{ReadError}
use Rattle.dwp_units.specs.Units.{unit_at}
use Rattle.dwp_units.specs.declared.unit.UnitSection.{UnitSection}
use Rattle.dwp_units.specs.declared.unit.UnitSection.TheVariants as places
use Rattle.dwp_table.specs.Columns.{contribution_kinds}
use Rattle.dwp_table.specs.Objects.{identifier_of}
use Rattle.dwp_table.specs.Probing.{found_row, look_count}
use Rattle.dwp_table.specs.declared.object.DwarfObject.{DwarfObject}
use Rattle.dwp_table.specs.declared.object.DwarfObject.TheVariants.{Compilation, TypeUnit}
use Rattle.dwp_index.specs.declared.error.PackageError.{PackageError}
use Rattle.dwp_index.specs.declared.error.PackageError.TheVariants as errors
use Rattle.dwp_index.specs.Contents.{Sections, content, contents_of}
use Rattle.dwp_index.specs.Index.{Index, Ranges, row_in, range_in}
use Rattle.dwp_index.specs.IndexBytes.{index_of}

-- the sections of a package, and its indexes
pub record Package : Type 0 where
  pub order : Endianness
  pub contents : Sections
  pub compilations : Option Index
  pub types : Option Index

-- a unit of a package
pub record FoundUnit : Type 0 where
  pub order : Endianness
  pub contents : Sections
  pub number : ℕ
  pub row : Ranges
  pub bytes : List ℕ
  pub encoding : Encoding

-- an error as one of a package
abbrev pub as_error : {X E F : Type 0} → (E → F) → Result X E → Result X F
as_error f (Ok x) = Ok x
as_error f (Err e) = Err (f e)

-- an index; none in an empty section
unfoldable pub index_in_section : Endianness → List ℕ → Result (Option Index) PackageError
index_in_section order bytes =
    if length bytes == 0 then Ok None
    else (as_error errors.Index (index_of order bytes) >>= λ index. Ok (Some index))

-- what the bytes of a file mean, or the first error
unfoldable pub package_of : List ℕ → Result Package PackageError
package_of bytes = do
  file ← as_error errors.Elf (elf_of bytes)
  contents ← as_error errors.Elf (contents_of file.sections)
  compilations ← index_in_section file.order (content contents kinds.CuIndex)
  types ← index_in_section file.order (content contents kinds.TuIndex)
  Ok (record {
    order = file.order;
    contents = contents;
    compilations = compilations;
    types = types;
  })

-- a range lies inside these bytes
abbrev pub lies_inside : List ℕ → Contribution → Bool
lies_inside bytes range = nat_le (range.offset.0 + range.size) (length bytes)

-- the bytes of a range; none where it is absent or isn't inside
abbrev pub part_of : List ℕ → Option Contribution → List ℕ
part_of bytes None = []
part_of bytes (Some range) = if lies_inside bytes range
    then slice_range bytes range.offset.0 (range.offset.0 + range.size) else []

abbrev pub is_outside : List ℕ → Option Contribution → Bool
is_outside bytes None = false
is_outside bytes (Some range) = not (lies_inside bytes range)

-- the first section, in the order of columns, that a range of the row isn't inside of
unfoldable pub first_outside : Sections → Ranges → Option SectionKind
first_outside contents row =
    find (λ kind. is_outside (content contents kind) (range_in row kind)) contribution_kinds

abbrev pub all_inside : Option SectionKind → Result (Unit {0}) PackageError
all_inside None = Ok tt
all_inside (Some kind) = Err (errors.Range kind)

-- where a unit's own bytes stand: a type unit's in types where it has a range there
abbrev pub place_of : DwarfObject → Option Contribution → UnitSection
place_of (Compilation id) range = places.Info
place_of (TypeUnit signature) None = places.Info
place_of (TypeUnit signature) (Some range) = places.Types

-- the kind of section that units of a place stand in
abbrev pub kind_of : UnitSection → SectionKind
kind_of places.Info = kinds.Info
kind_of places.Types = kinds.Types

-- the bytes of a row's range in a section
unfoldable pub row_bytes : Sections → Ranges → SectionKind → List ℕ
row_bytes contents row kind = part_of (content contents kind) (range_in row kind)

-- the encoding in the header of the unit that the bytes begin with
unfoldable pub encoding_in : Endianness → UnitSection → List ℕ → Result Encoding ReadError
encoding_in order place bytes = unit_at place (section order bytes) >>= λ unit. Ok unit.0.encoding

-- the unit of a row: its ranges lie inside their sections, and its header can be read
unfoldable pub unit_in : Package → DwarfObject → ℕ → Ranges → Result FoundUnit PackageError
unit_in pack object number row = do
  inside ← all_inside (first_outside pack.contents row)
  let place = place_of object (range_in row kinds.Types)
  let bytes = row_bytes pack.contents row (kind_of place)
  encoding ← as_error errors.Unit (encoding_in pack.order place bytes)
  Ok (record {
    order = pack.order;
    contents = pack.contents;
    number = number;
    row = row;
    bytes = bytes;
    encoding = encoding;
  })

-- the index of the units of a kind
abbrev pub index_for : Package → DwarfObject → Option Index
index_for pack (Compilation id) = pack.compilations
index_for pack (TypeUnit signature) = pack.types

-- the unit of a row number, and how many slots were looked at
unfoldable pub unit_at_row : Package → DwarfObject → Index → ℕ → ℕ
    → Result (Option FoundUnit × ℕ) PackageError
unit_at_row pack object index number count = do
  row ← as_error errors.Index (row_in index number)
  unit ← unit_in pack object number row
  Ok (Some unit, count)

abbrev pub unit_found : Package → DwarfObject → Index → Option ℕ → ℕ
    → Result (Option FoundUnit × ℕ) PackageError
unit_found pack object index None count = Ok (None, count)
unit_found pack object index (Some number) count = unit_at_row pack object index number count

abbrev pub found_by : Package → DwarfObject → Option Index
    → Result (Option FoundUnit × ℕ) PackageError
found_by pack object None = Ok (None, 0)
found_by pack object (Some index) =
    unit_found pack object index (found_row index.signatures index.rows (identifier_of object))
    (look_count index.signatures index.rows (identifier_of object))

-- the unit of an identifier, by the look-up in the index of its kind, and how many slots were
-- looked at
unfoldable pub found_counted : Package → DwarfObject → Result (Option FoundUnit × ℕ) PackageError
found_counted pack object = found_by pack object (index_for pack object)

-- the row of a number, whose ranges lie inside their sections
abbrev pub row_inside : Package → ℕ → ℕ → Ranges → Result (Option (ℕ × Ranges) × ℕ) PackageError
row_inside pack number count row =
    all_inside (first_outside pack.contents row) >>= λ inside. Ok (Some (number, row), count)

abbrev pub row_found : Package → Index → Option ℕ → ℕ
    → Result (Option (ℕ × Ranges) × ℕ) PackageError
row_found pack index None count = Ok (None, count)
row_found pack index (Some number) count =
    as_error errors.Index (row_in index number) >>= row_inside pack number count

abbrev pub row_by : Package → DwarfObject → Option Index
    → Result (Option (ℕ × Ranges) × ℕ) PackageError
row_by pack object None = Ok (None, 0)
row_by pack object (Some index) =
    row_found pack index (found_row index.signatures index.rows (identifier_of object))
    (look_count index.signatures index.rows (identifier_of object))

-- the row of an identifier's unit with its number, by the same look-up, and how many slots were
-- looked at; the unit's header isn't read
unfoldable pub row_counted : Package → DwarfObject → Result (Option (ℕ × Ranges) × ℕ) PackageError
row_counted pack object = row_by pack object (index_for pack object)

-- the unit of a row that was found
abbrev pub unit_of_row : Package → DwarfObject → Option (ℕ × Ranges) × ℕ
    → Result (Option FoundUnit × ℕ) PackageError
unit_of_row pack object (None, count) = Ok (None, count)
unit_of_row pack object (Some (number, row), count) =
    unit_in pack object number row >>= λ unit. Ok (Some unit, count)

-- looking a row up, and then reading the unit of that row
abbrev pub found_by_row : Package → DwarfObject → Result (Option FoundUnit × ℕ) PackageError
found_by_row pack object = row_counted pack object >>= unit_of_row pack object

-- the map that a package is
unfoldable pub found : Package → DwarfObject → Result (Option FoundUnit) PackageError
found pack object = found_counted pack object >>= λ x. Ok x.0

-- the first byte of a unit's own bytes: it stands where its range begins
abbrev pub first_byte_from : Sections → SectionKind → Option Contribution → Option ℕ
first_byte_from contents kind None = None
first_byte_from contents kind (Some range) = slice_get (content contents kind) range.offset.0

abbrev pub first_byte_of : Package → DwarfObject → Result Ranges ReadError → Option ℕ
first_byte_of pack object (Err cause) = None
first_byte_of pack object (Ok row) = first_byte_from pack.contents
    (kind_of (place_of object (range_in row kinds.Types)))
    (range_in row (kind_of (place_of object (range_in row kinds.Types))))

abbrev pub first_byte_at : Package → DwarfObject → Index → Option ℕ → Option ℕ
first_byte_at pack object index None = None
first_byte_at pack object index (Some number) = first_byte_of pack object (row_in index number)

abbrev pub first_byte_by : Package → DwarfObject → Option Index → Option ℕ
first_byte_by pack object None = None
first_byte_by pack object (Some index) = first_byte_at pack object index
    (found_row index.signatures index.rows (identifier_of object))

unfoldable pub first_byte : Package → DwarfObject → Option ℕ
first_byte pack object = first_byte_by pack object (index_for pack object)
