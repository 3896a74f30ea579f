-- Where a unit's contribution to a section of an input package comes to lie in the output (DWARF 5,
-- 7.3.5.3).
use Rattle.std.specs.Prelude.{Bool, Err, false, if◌then◌else◌, is_none, is_some, nat_le, None, Ok}
use Rattle.std.specs.Prelude.{Option, Result, Some, ℕ, ◌&&◌, ◌+◌, ◌≡◌}
use Rattle.dwp_base.specs.declared.section.SectionKind.{SectionKind}
use Rattle.dwp_base.specs.declared.section.Contribution.{Contribution}
use Rattle.dwp_base.specs.Reading.{◌>>=◌}
use Rattle.dwp_base.specs.Sections.{name_of}
use Rattle.dwp_table.specs.declared.object.DwarfObject.{DwarfObject}
use Rattle.dwp_table.specs.declared.object.DwarfObject.TheVariants.{Compilation, TypeUnit}
use Rattle.dwp_table.specs.Objects.{identifier_of}
use Rattle.dwp_table.specs.Probing.{found_row}
use Rattle.dwp_index.specs.Index.{column_place, Index, range_in, Ranges, row_in}
use Rattle.thorin_errors.specs.Errors.{BadContribution, error_of, ErrorValue, RowNotInIndex}
use Rattle.thorin_errors.specs.Errors.{SectionNotInRow, UnitNotInIndex}
use Rattle.thorin_errors.specs.Answers.{as_error}
use Rattle.thorin_errors.specs.declared.error.Error.{Error}

-- the indexes of an input, those that it has, and one of its sections
pub record Adjustor : Type 0 where
  pub compilation : Option Index
  pub types : Option Index
  pub section : SectionKind

-- the index of the units of a unit's kind, and that of the other kind
abbrev pub own_index : Adjustor → DwarfObject → Option Index
own_index a (Compilation id) = a.compilation
own_index a (TypeUnit signature) = a.types

abbrev pub other_index : Adjustor → DwarfObject → Option Index
other_index a (Compilation id) = a.types
other_index a (TypeUnit signature) = a.compilation

-- the row number that looking an identifier up gives
abbrev pub looked_up : Option Index → ℕ → Option ℕ
looked_up None id = None
looked_up (Some index) id = found_row index.signatures index.rows id

-- the row of a look-up's answer
abbrev pub row_found : Index → ℕ → Option ℕ → Result Ranges ErrorValue
row_found index id None = Err (UnitNotInIndex id)
row_found index id (Some r) = as_error (λ error. RowNotInIndex error r) (row_in index r)

-- a unit's row
unfoldable pub row_of : Option Index → ℕ → Result Ranges ErrorValue
row_of None id = Err (UnitNotInIndex id)
row_of (Some index) id = row_found index id (found_row index.signatures index.rows id)

-- an index that is there has a column for a section
abbrev pub has_column_for : SectionKind → Option Index → Bool
has_column_for kind None = false
has_column_for kind (Some index) = is_some (column_place index.version index.columns kind)

-- a range inside a section, from the place on where the section now begins
unfoldable pub moved : SectionKind → ℕ → Contribution → Option Contribution
    → Result (Option Contribution) ErrorValue
moved kind id range None = Err (BadContribution (name_of kind) id)
moved kind id range (Some whole) =
    if nat_le (range.offset.0 + range.size) whole.size
    then Ok
    (Some (record { offset = record { 0 = whole.offset.0 + range.offset.0 }; size = range.size }))
    else Err (BadContribution (name_of kind) id)

-- the same of a range that may be absent
abbrev pub moved_range : SectionKind → ℕ → Option Contribution → Option Contribution
    → Result (Option Contribution) ErrorValue
moved_range kind id None whole = Ok None
moved_range kind id (Some range) whole = moved kind id range whole

-- a section that no index has a column for is not to be there
abbrev pub without_column : Option Contribution → Result (Option Contribution) ErrorValue
without_column None = Ok None
without_column (Some whole) = Err SectionNotInRow

-- the unit's contribution, by its row: its index has the section's column, or the other index has
-- it, or neither
abbrev pub contribution_by_row : Adjustor → DwarfObject → Option Contribution → Ranges
    → Result (Option Contribution) ErrorValue
contribution_by_row a unit whole row =
    if has_column_for a.section (own_index a unit)
    then moved_range a.section (identifier_of unit) (range_in row a.section) whole
    else (if has_column_for a.section (other_index a unit) then Ok None
    else without_column whole)

-- the unit's contribution to the section, which as a whole lies there in the output
unfoldable pub adjusted : Adjustor → DwarfObject → Option Contribution
    → Result (Option Contribution) ErrorValue
adjusted a unit whole =
    if is_none a.compilation && is_none a.types then Ok whole
    else (row_of (own_index a unit) (identifier_of unit) >>= contribution_by_row a unit whole)

-- what a call that takes no memory answered is what the definition says
abbrev pub GivesExactly : {X : Type 0} → Result X Error → Result X ErrorValue → Type 0
GivesExactly (Ok x) meaning = meaning ≡ Ok x
GivesExactly (Err e) meaning = meaning ≡ Err (error_of e)
