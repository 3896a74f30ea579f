-- Where the columns of an index stand, as a number for each kind of section says it.
use Rattle.std.specs.Prelude.{◌≡◌, ℕ, ◌<◌, List, Option, Some, None}
use Rattle.dwp_base.specs.ByKind.{values_of, value_of}
use Rattle.dwp_base.specs.declared.by_kind.ByKind.{ByKind}
use Rattle.dwp_base.specs.declared.section.SectionKind.{SectionKind}
use Rattle.dwp_index.specs.Index.{column_place}

-- stands for no column: no place is so large
abbrev pub NO_COLUMN : ℕ
NO_COLUMN = 4294967295

abbrev pub place_held : ByKind ℕ → SectionKind → ℕ
place_held places kind = value_of NO_COLUMN (values_of places) kind

-- a number says the place of one of so many columns, or that there is none
abbrev pub IsPlace : ℕ → ℕ → Option ℕ → Type 0
IsPlace count n None = n ≡ NO_COLUMN
IsPlace count n (Some i) = (n ≡ i) × (i < count) × (i < NO_COLUMN)

-- it says so of each section's column
abbrev pub ArePlaces : ByKind ℕ → ℕ → ℕ → List ℕ → Type 0
ArePlaces places version count columns = (kind : SectionKind)
    → IsPlace count (place_held places kind) (column_place version columns kind)
