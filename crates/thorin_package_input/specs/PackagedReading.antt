-- What is read of a package's string offsets after they were rewritten (DWARF 5, 7.26).
use Rattle.std.specs.Prelude.{◌≡◌, ℕ, ◌+◌, ◌≤◌, List, length, take, slice_range, Option, Some, Ok}
use Rattle.dwp_base.specs.declared.endian.Endianness.{Endianness}
use Rattle.dwp_base.specs.declared.section.SectionKind.TheVariants.{StrOffsets}
use Rattle.dwp_base.specs.declared.section.Contribution.{Contribution}
use Rattle.dwp_bytes.specs.declared.encoding.Encoding.{Encoding}
use Rattle.dwp_index.specs.Index.{Index, Ranges, row_in, range_in}
use Rattle.thorin_package_input.specs.ReadStrings.{ReadsAlike}
use Rattle.dwp_strings.specs.Strings.{IsTable, data_of}

-- the bytes of a range
abbrev pub range_bytes : List ℕ → Contribution → List ℕ
range_bytes bytes range = slice_range bytes range.offset.0 (range.offset.0 + range.size)

-- a range is inside the section, and is read as before, of each number, in the section of any table
-- that begins with the strings after it
pub record RangeReadsAlike (order : Endianness) (encoding : Encoding)
    (section bytes written : List ℕ) (after : List (List ℕ)) (range : Contribution) : Type 0 where
  pub inside : range.offset.0 + range.size ≤ length bytes
  pub alike : (final : List (List ℕ)) → IsTable final → take (length after) final ≡ after
      → (k : ℕ) → ReadsAlike order encoding section (range_bytes bytes range) (data_of final)
      (range_bytes written range) k

-- so is the range of each row
abbrev pub RowsReadAlike : Endianness → Encoding → (section bytes written : List ℕ) → List (List ℕ)
    → Index → Type 0
RowsReadAlike order encoding section bytes written after index =
    (number : ℕ) (row : Ranges) (range : Contribution) → row_in index number ≡ Ok row → range_in row
    StrOffsets ≡ Some range → RangeReadsAlike order encoding section bytes written after range

-- a package's string offsets were rewritten: the strings before keep their offsets, the section its
-- size, and the range of each row of both indexes is read as before
pub record PackageReadsAlike (order : Endianness) (encoding : Encoding)
    (compilations types : Option Index) (section bytes : List ℕ) (before : List (List ℕ))
    (written : List ℕ) (after : List (List ℕ)) : Type 0 where
  pub table : IsTable after
  pub kept : take (length before) after ≡ before
  pub size : length written ≡ length bytes
  pub compilation_rows : (index : Index) → compilations ≡ Some index
      → RowsReadAlike order encoding section bytes written after index
  pub type_rows : (index : Index) → types ≡ Some index
      → RowsReadAlike order encoding section bytes written after index
