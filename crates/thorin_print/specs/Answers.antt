-- What a command prints, and what it answers.
use Rattle.std.specs.Prelude.{◌≡◌, ℕ, List, [], take, Option, Result, Ok, Err}
use Rattle.std.specs.Io.KnownBytes.{Appends}
use Rattle.thorin_print.specs.declared.output.Failure.{Failure}
use Rattle.thorin_print.specs.declared.output.Failure.TheVariants as failures

-- the status that the program ends with: 2 where the words are wrong, else 1
abbrev pub exit_status : Failure → ℕ
exit_status failures.BadKind = 2
exit_status failures.BadIdentifier = 2
exit_status failures.BadNumber = 2
exit_status failures.BadSection = 2
exit_status failures.BadCommand = 2
exit_status _ = 1

-- a text, and what is answered once it is printed: a status, or why the command was refused
pub record Answer : Type 0 where
  pub printed : List ℕ
  pub answer : Result ℕ Failure

-- it is refused, and prints nothing
abbrev pub refused : Failure → Answer
refused failure = record { printed = []; answer = Err failure }

-- where a writer's bytes are known, a beginning of some bytes was added, or all of them
unfoldable pub HasBeginning : Option (List ℕ) → Option (List ℕ) → List ℕ → Type 0
HasBeginning old new bytes = (count : ℕ) × Appends old new (take count bytes)

-- a command came to that: its text was printed, nothing else, and then it answered; or a line
-- couldn't be written or memory ran out, and the text was begun
abbrev pub Comes : Result ℕ Failure → Answer → (old new : Option (List ℕ)) → Type 0
Comes (Err failures.Line) meant old new = HasBeginning old new meant.printed
Comes (Err failures.Memory) meant old new = HasBeginning old new meant.printed
Comes answer meant old new = (meant.answer ≡ answer) × Appends old new meant.printed

-- ---- printing

-- what comes of printing: it is done, or failed
abbrev pub Outcome : Type 0
Outcome = Result (Unit {0}) Failure

-- where a writer's bytes are known, some were added
abbrev pub Grows : Option (List ℕ) → Option (List ℕ) → Type 0
Grows old new = (text : List ℕ) × Appends old new text

-- a line can't be written, or memory ran out
abbrev pub IsOfPrinting : Failure → Type 0
IsOfPrinting failures.Line = Unit {0}
IsOfPrinting failures.Memory = Unit {0}
IsOfPrinting _ = ⊥

-- the same where what was to take the line knows that it failed
abbrev pub FailsBy : (failed : Type 0) → Failure → Type 0
FailsBy failed failures.Line = failed
FailsBy failed failures.Memory = Unit {0}
FailsBy failed _ = ⊥

-- a text was printed, or something of it or nothing
abbrev pub Prints : (text : List ℕ) → (old new : Option (List ℕ)) → Outcome
    → Type 0
Prints text old new (Ok done) = Appends old new text
Prints text old new (Err failure) = IsOfPrinting failure × Grows old new
