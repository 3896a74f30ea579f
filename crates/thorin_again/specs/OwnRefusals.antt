-- What an own package can still be refused with (DWARF 5, 7.26 and 7.3.5).
use Rattle.std.specs.Prelude.{◌≡◌, ◌≤◌, ◌^◌, ◌⊎◌, ℕ, codes, Result, Ok, Err}
use Rattle.thorin_errors.specs.Errors.{ErrorValue, NumberTooLarge, DuplicateUnit}

-- the offset of a string, past 32 bits, doesn't fit the format
abbrev pub IsStringOffset : ErrorValue → Type 0
IsStringOffset error = (offset : ℕ) × (2 ^ 32 ≤ offset)
    × (error ≡ NumberTooLarge (codes "string offset") offset)

-- an answer, or that refusal
abbrev pub UnlessStringOffset : {X : Type 0} → Result X ErrorValue → Type 0
UnlessStringOffset (Ok x) = Unit {0}
UnlessStringOffset (Err error) = IsStringOffset error

-- or a compilation unit is there already
abbrev pub IsForeseen : ErrorValue → Type 0
IsForeseen error = IsStringOffset error ⊎ ((id : ℕ) × (error ≡ DuplicateUnit id))

abbrev pub UnlessForeseen : {X : Type 0} → Result X ErrorValue → Type 0
UnlessForeseen (Ok x) = Unit {0}
UnlessForeseen (Err error) = IsForeseen error
