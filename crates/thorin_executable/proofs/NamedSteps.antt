-- A list of split units, one unit after the other.
use Rattle.std.proofs.Common.{arith, Err, List, map, Option, refl, Result, take, take_all, ◌∷◌, ◌≡◌}
use Rattle.std.proofs.Common.{length, Ok, ◌++◌}
use Rattle.thorin_errors.specs.{declared.error.Error.Error, Errors.ErrorValue}
use Rattle.thorin_executable.specs.Skeletons.{Listed, skeleton_read, skeletons_from, with_first}
use Rattle.thorin_executable.specs.declared.listing.{NamelessUnits.NamelessUnits, Skeleton.Skeleton}
use Rattle.thorin_executable.specs.{Sections.DebugData, Skeletons.Named, View.IsPushed, View.named}
use Rattle.{dwp_bytes.specs.declared.error.ReadError.ReadError, std.proofs.lemmas.List.length-map}
use Rattle.dwp_units.specs.Units.{Unit as UnitMeaning}

-- what comes first, and what the units behind it stand for
pub first_then : (nameless : NamelessUnits) (debug : DebugData)
    (read : Result UnitMeaning ReadError)
    (left rest : List (Result UnitMeaning ReadError)) (found : Result (Option Named)
    ErrorValue) (all : Listed) → skeletons_from nameless debug left ≡ all → left ≡ read ∷ rest
    → skeleton_read nameless debug read ≡ found
    → all ≡ with_first found (skeletons_from nameless debug rest)
first_then nameless debug read left rest found all so_far is e = rw (← so_far, is, e) refl

-- those before, and a list behind them
abbrev pub put : List Named → Listed → Listed
put before rest = (before ++ rest.0, rest.1)

-- what was added of a list is the first of it
pub pushed_front : (meaning : Listed) (result : Result (Unit {0}) Error) (units : List Skeleton)
    → IsPushed meaning result units → take (length units) meaning.0 ≡ map named units
pushed_front meaning (Err e) units is = is.1
pushed_front meaning (Ok x) units is =
    rw is (take_all (length units) (map named units) (simp length-map (omega arith)))
