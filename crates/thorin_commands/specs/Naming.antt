-- Why a package has no name, and why units aren't counted.
use Rattle.std.specs.Prelude.{◌≡◌, ℕ, List, Option, None}
use Rattle.thorin_print.specs.declared.output.Failure.{Failure}
use Rattle.thorin_print.specs.declared.output.Failure.TheVariants as failures

-- none is given, and none stands beside an executable; or memory ran out
abbrev pub IsNameless : Option (List ℕ) → Failure → Type 0
IsNameless name failures.BadCommand = name ≡ None
IsNameless name failures.Memory = Unit {0}
IsNameless name _ = ⊥

-- a file of which the units are to be counted can't be read, or memory ran out
abbrev pub IsUncounted : Failure → Type 0
IsUncounted failures.Input = Unit {0}
IsUncounted failures.Memory = Unit {0}
IsUncounted _ = ⊥
