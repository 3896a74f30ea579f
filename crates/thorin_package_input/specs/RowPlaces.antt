-- Rows of an index by their range in one section (DWARF 5, 7.3.5.3).
use Rattle.std.specs.Prelude.{◌≡◌, ◌≢◌, ℕ, ◌<◌, ◌≤◌, Bool, false, ◌&&◌, ◌==◌, List, length, map}
use Rattle.std.specs.Prelude.{Option, Some, None, Ok}
use Rattle.std.specs.List.{position_from, range_with_len}
use Rattle.std.specs.Option.{option_and_then}
use Rattle.std.specs.Result.{result_ok}
use Rattle.dwp_base.specs.declared.section.SectionKind.{SectionKind}
use Rattle.dwp_base.specs.declared.section.Contribution.{Contribution}
use Rattle.dwp_index.specs.Index.{Index, Ranges, row_in, range_in}

-- a row's range is exactly that
abbrev pub is_range : Contribution → Option Contribution → Bool
is_range range None = false
is_range range (Some r) = r.offset.0 == range.offset.0 && r.size == range.size

-- the range of the row of a number: none without the row
abbrev pub range_of_row : Index → SectionKind → ℕ → Option Contribution
range_of_row index kind number =
    option_and_then (λ row. range_in row kind) (result_ok (row_in index number))

-- the ranges of an index's rows in a section, in the order of rows
unfoldable pub ranges_of : Index → SectionKind → List (Option Contribution)
ranges_of index kind = map (range_of_row index kind) (range_with_len 1 (length index.offsets))

-- the number of the lowest row of an index whose range in a section is exactly that one
unfoldable pub row_by_place : Option Index → SectionKind → Contribution → Option ℕ
row_by_place None kind range = None
row_by_place (Some index) kind range = position_from (is_range range) 1 (ranges_of index kind)

-- an index that may be there, and a section
pub record Places : Type 0 where
  pub index : Option Index
  pub section : SectionKind

-- a row that has the range, and no row before it has
pub record IsFirstWith (index : Index) (kind : SectionKind) (range : Contribution)
    (number : ℕ) : Type 0 where
  pub row : Ranges
  pub there : row_in index number ≡ Ok row
  pub has : range_in row kind ≡ Some range
  pub low : 1 ≤ number
  pub high : number ≤ length index.offsets
  pub first : (lower : ℕ) (other : Ranges) → lower < number → row_in index lower ≡ Ok other
      → range_in other kind ≢ Some range
