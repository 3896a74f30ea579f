-- Reading the files that a command line names, and what comes of a command that reads one.
use Rattle.std.specs.Prelude.{ℕ, List, Option, Result, Ok, Err, ◌⊎◌}
use Rattle.std.specs.declared.io.Error.{Error as IoError}
use Rattle.std.specs.Io.KnownBytes.{Keeps}
use Rattle.thorin_print.specs.Answers.{Answer, Comes}
use Rattle.thorin_print.specs.declared.output.Failure.{Failure}
use Rattle.thorin_print.specs.declared.output.Failure.TheVariants as failures

-- what a read of the file at a path may answer
abbrev pub Offer : Type 1
Offer = List ℕ → Result (List ℕ) IoError → Type 0

-- a file of the system may hold anything, and any read of it may fail
abbrev pub anything : Offer
anything path answer = Unit {0}

-- why a file that is offered isn't read
abbrev pub FailsToRead : Offer → List ℕ → Failure → Type 0
FailsToRead offer path failures.Input = (cause : IoError) × offer path (Err cause)
FailsToRead offer path failures.Memory = Unit {0}
FailsToRead offer path _ = ⊥

abbrev pub RefusesFile : Offer → List ℕ → Result ℕ Failure → Type 0
RefusesFile offer path (Ok status) = ⊥
RefusesFile offer path (Err failure) = FailsToRead offer path failure

-- the file at a path was read, and the command came to what is meant for its bytes; or it can't be
-- read, and nothing was printed
unfoldable pub Reads : Offer → (path : List ℕ) → (List ℕ → Answer)
    → (old new : Option (List ℕ)) → Result ℕ Failure → Type 0
Reads offer path meant old new result =
    ((bytes : List ℕ) × offer path (Ok bytes) × Comes result (meant bytes) old new)
    ⊎ (RefusesFile offer path result × Keeps old new)
