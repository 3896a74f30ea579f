-- Texts that were made for faults.
use Rattle.std.specs.Prelude.{◌≡◌, ℕ, List, [], ◌∷◌, ◌++◌, codes, Option, Some, None, Result, Ok}
use Rattle.std.specs.Prelude.{Err, String, string_bytes}
use Rattle.std.specs.Global.{Global}
use Rattle.dwp_base.specs.Sections.{name_of}
use Rattle.dwp_index.specs.declared.error.PackageError.{PackageError}
use Rattle.dwp_index.specs.declared.error.PackageError.TheVariants.{Range}
use Rattle.dwp_table.specs.declared.object.DwarfObject.{DwarfObject}
use Rattle.thorin_print.specs.Answers.{Outcome, Grows}
use Rattle.thorin_check.specs.Rendering.{FaultValue, of_unit, of_package}
use Rattle.thorin_check.specs.Telling.{Progress, Is, IsFault, Tells}
use Rattle.thorin_print.specs.declared.output.Failure.TheVariants as failures

-- the fault of a unit, where there is a text
abbrev pub unit_faults : DwarfObject → Option (String Global) → List FaultValue
unit_faults object None = []
unit_faults object (Some text) = of_unit object (string_bytes text) ∷ []

-- such a fault was told, with a text that was made; or there was no memory for that
abbrev pub TellsText : {E : Type 0} → DwarfObject → Result (Option (String Global)) E
    → (old new : Progress) → Outcome → Type 0
TellsText object (Ok text) old new result = Tells (Is (unit_faults object text)) old new result
TellsText object (Err cause) old new result =
    (result ≡ Err failures.Memory) × Grows old.written new.written

-- the same of a fault of the package
abbrev pub TellsWhat : {E : Type 0} → Result (String Global) E → (old new : Progress) → Outcome
    → Type 0
TellsWhat (Ok text) old new result = Tells (IsFault (of_package (string_bytes text))) old new result
TellsWhat (Err cause) old new result =
    (result ≡ Err failures.Memory) × Grows old.written new.written

-- a text, or none, of a fault of a unit of which something holds
abbrev pub IsTextOf : {E : Type 0} → (List FaultValue → Type 0) → DwarfObject
    → Result (Option (String Global)) E → Type 0
IsTextOf P object (Ok text) = P (unit_faults object text)
IsTextOf P object (Err cause) = Unit {0}

-- a text that there is, where it could be made
abbrev pub IsSomeText : {E : Type 0} → Result (String Global) E
    → Result (Option (String Global)) E → Type 0
IsSomeText (Ok text) result = result ≡ Ok (Some text)
IsSomeText (Err cause) result = result ≡ Err cause

-- what is told where the package reader can't read what the index says of a unit
abbrev pub IsUnreadText : PackageError → List ℕ → Type 0
IsUnreadText (Range kind) text =
    text ≡ codes "its range of " ++ (name_of kind ++ codes " is outside the section")
IsUnreadText _ text = Unit {0}
