-- What reads of files may answer.
use Rattle.std.specs.Prelude.{ℕ, List, Option, Result, Ok, Err}
use Rattle.std.specs.declared.io.Error.{Error as IoError}
use Rattle.thorin_errors.specs.declared.error.InputError.{InputError}
use Rattle.thorin_errors.specs.declared.error.InputError.TheVariants as input

-- what a file is known by, its device and its number: two names of one file have the same. None
-- where there is no file
abbrev pub Identity : Type 0
Identity = Option (ℕ × ℕ)

-- a file of the system may be known by anything
abbrev pub any_identity : List ℕ → Identity → Type 0
any_identity path identity = Unit {0}

-- a file of the system may hold anything, and any read of it may fail
abbrev pub anything : List ℕ → Result (List ℕ) IoError → Type 0
anything path answer = Unit {0}

-- a read over room answered what may be answered there, want of memory aside
abbrev pub IsReadOver : (Result (List ℕ) IoError → Type 0) → List ℕ → Result (Unit {0}) InputError
    → Type 0
IsReadOver offered room (Ok x) = offered (Ok room)
IsReadOver offered room (Err (input.Io cause)) = offered (Err cause)
IsReadOver offered room (Err input.Memory) = Unit {0}
