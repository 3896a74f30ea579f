-- A value for each kind of section.
use Rattle.std.specs.Prelude.{◌≡◌, ℕ, ◌<◌, List, length, get_or, slice_get, Some, Result, Ok, Err}
use Rattle.dwp_base.specs.Sections.{rank_of, all_kinds}
use Rattle.dwp_base.specs.declared.section.SectionKind.{SectionKind}
use Rattle.dwp_base.specs.declared.by_kind.ByKind.{ByKind}

-- the values, in the order of the kinds
abbrev pub values_of : {T : Type 0} → ByKind T → List T
values_of by_kind = by_kind.values

-- the value of a kind among those of all kinds in their order
abbrev pub value_of : {T : Type 0} → T → List T → SectionKind → T
value_of default values kind = get_or values (rank_of kind) default

-- what is read for each kind, or what is answered for the first that can't be read
abbrev pub ReadsEach : {T E : Type 0} → (SectionKind → Result T E → Type 0) → Result (ByKind T) E
    → Type 0
ReadsEach reads (Ok by_kind) = (length (values_of by_kind) ≡ 13)
    × ((kind : SectionKind) → (value : _) × (slice_get (values_of by_kind) (rank_of kind) ≡ Some
    value) × reads kind (Ok value))
ReadsEach reads (Err e) = (place : ℕ) × (kind : SectionKind)
    × (slice_get all_kinds place ≡ Some kind) × reads kind (Err e)
    × ((before : ℕ) (other : SectionKind) → before < place → slice_get all_kinds before ≡ Some other
    → (value : _) × reads other (Ok value))
