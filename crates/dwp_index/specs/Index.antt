-- What an index of a package says (DWARF 5, 7.3.5.3; for version 2 the GNU page DebugFissionDWP).
use Rattle.std.specs.Prelude.{ℕ, ◌-◌, List, [], length, slice_index, slice_index_or, Option, Some}
use Rattle.std.specs.Prelude.{None, Result, Ok, Err, ◌==◌, nat_lt, ◌&&◌, if◌then◌else◌}
use Rattle.std.specs.List.{position_from}
use Rattle.std.specs.Option.{option_and_then}
use Rattle.dwp_base.specs.declared.section.SectionKind.{SectionKind}
use Rattle.dwp_base.specs.declared.section.Contribution.{Contribution}
use Rattle.dwp_bytes.specs.declared.error.ReadError.{ReadError}
use Rattle.dwp_bytes.specs.declared.error.ReadError.TheVariants.{RowOutOfRange}
use Rattle.dwp_table.specs.Columns.{column_of}

-- slot k of the hash table holds the signature at k and the row number at k; row r + 1 has the
-- offsets and the sizes at r, one of each for each column
pub record Index : Type 0 where
  pub version : ℕ
  pub columns : List ℕ
  pub signatures : List ℕ
  pub rows : List ℕ
  pub offsets : List (List ℕ)
  pub sizes : List (List ℕ)

-- one row of an index
pub record Ranges : Type 0 where
  pub version : ℕ
  pub columns : List ℕ
  pub offsets : List ℕ
  pub sizes : List ℕ

-- the row of a number: rows count from 1
unfoldable pub row_in : Index → ℕ → Result Ranges ReadError
row_in index r =
    if nat_lt 0 r && nat_lt (r - 1) (length index.offsets)
    then Ok (record {
      version = index.version;
      columns = index.columns;
      offsets = slice_index_or index.offsets (r - 1) [];
      sizes = slice_index_or index.sizes (r - 1) [];
    })
    else Err RowOutOfRange

-- the place of a section's column among the columns, where it has one
unfoldable pub column_place : ℕ → List ℕ → SectionKind → Option ℕ
column_place version columns kind =
    option_and_then (λ c. position_from (λ n. n == c) 0 columns) (column_of version kind)

-- a range of no bytes is absent
abbrev pub contribution : ℕ → ℕ → Option Contribution
contribution offset size =
    if size == 0 then None else Some (record { offset = record { 0 = offset }; size = size })

-- a row's range in a section
unfoldable pub range_in : Ranges → SectionKind → Option Contribution
range_in row kind =
    option_and_then (λ i. contribution (slice_index row.offsets i) (slice_index row.sizes i))
    (column_place row.version row.columns kind)
