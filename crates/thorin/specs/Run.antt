-- A run of inputs, and what is written after it.
use Rattle.std.specs.Prelude.{◌≡◌, ℕ, Bool, true, List, [], ◌∷◌, ◌++◌, Result, Ok, Err, ◌⊎◌}
use Rattle.std.specs.Path.{path_bytes}
use Rattle.std.specs.declared.io.Error.{Error as IoError}
use Rattle.dwp_elf.specs.FileText.{Object as File, file_text}
use Rattle.dwp_elf.specs.Contents.{KindsDiffer}
use Rattle.dwp_elf.specs.Numbers.{Fits}
use Rattle.dwp_elf.specs.Written.{written_elf}
use Rattle.dwp_elf_read.specs.Elf.{elf_of}
use Rattle.dwp_elf_read.specs.declared.error.WriteError.TheVariants as writer
use Rattle.thorin_errors.specs.declared.error.Error.{Error}
use Rattle.thorin_errors.specs.Errors.{ErrorValue, error_of, ObjectWrite}
use Rattle.thorin_errors.specs.Answers.{MemoryAside}
use Rattle.thorin.specs.declared.packing.Input.{Input}
use Rattle.thorin.specs.declared.packing.Input.TheVariants as inputs
use Rattle.thorin_join.specs.Builder.{State, finish_test, IsFinishedState}
use Rattle.thorin_builder.specs.Taking.{Outcome, Takes, accepted_of, TakesFile, TakesExecutable}
use Rattle.thorin_builder.specs.Taking.{TakesExecutableSkippingNameless, Step}
use Rattle.thorin_builder.specs.Taking.{all_named, nameless_skipped}
use Rattle.thorin_builder.specs.Reading.{DeclinesExecutable}

-- what came of an input of a list, and the bytes that were accepted
abbrev pub TakesInput : (List ℕ → Result (List ℕ) IoError → Type 0) → Input → State → Outcome
    → State → List (List ℕ) → Type 0
TakesInput offer (inputs.Object path) old outcome new accepted =
    (t : TakesFile (offer (path_bytes path)) old outcome new) × (accepted ≡ t.accepted)
TakesInput offer (inputs.Bytes bytes) old outcome new accepted =
    Takes bytes.now old outcome new × (accepted ≡ accepted_of outcome bytes.now)
TakesInput offer (inputs.Executable path missing) old outcome new accepted =
    (t : TakesExecutable offer (path_bytes path) missing old outcome new) × (accepted ≡ t.accepted)
TakesInput offer (inputs.ExecutableSkippingNameless path missing) old outcome new accepted =
    (t : TakesExecutableSkippingNameless offer (path_bytes path) missing old outcome new)
    × (accepted ≡ t.accepted)

-- the same, with the bytes that were accepted
pub record Took (offer : List ℕ → Result (List ℕ) IoError
    → Type 0) (input : Input) (old : State) (outcome : Outcome) (new : State) : Type 0 where
  pub accepted : List (List ℕ)
  pub takes : TakesInput offer input old outcome new accepted

-- an input is declined for a reason: the file at its path is, or of an executable that or the
-- object of a unit that it names; bytes aren't
abbrev pub DeclinesInput : {D : Type 0} → (offer : List ℕ → Result (List ℕ) IoError → Type 0)
    → (declines : (own : Bool) → List ℕ → D → Type 0) → Input → State → D → Type 0
DeclinesInput offer declines (inputs.Object path) old why = declines true (path_bytes path) why
DeclinesInput offer declines (inputs.Bytes bytes) old why = ⊥
DeclinesInput offer declines (inputs.Executable path missing) old why =
    DeclinesExecutable (all_named missing) offer declines (path_bytes path) old why
DeclinesInput offer declines (inputs.ExecutableSkippingNameless path missing) old why =
    DeclinesExecutable (nameless_skipped missing) offer declines (path_bytes path) old why

-- a run: each input in order, refused ones passed over; and the bytes of all that were accepted, in
-- order
abbrev pub Ran : (List ℕ → Result (List ℕ) IoError → Type 0) → List Input → State → List Outcome
    → State → List (List ℕ) → Type 0
Ran offer [] old [] new accepted = (new ≡ old) × (accepted ≡ [])
Ran offer [] old (outcome ∷ outcomes) new accepted = ⊥
Ran offer (input ∷ rest) old [] new accepted = ⊥
Ran offer (input ∷ rest) old (outcome ∷ outcomes) new accepted =
    (s : Step) × TakesInput offer input old outcome s.middle s.here
    × Ran offer rest s.middle outcomes new s.later × (accepted ≡ s.here ++ s.later)

-- the bytes are the file of the finished package, and a reader finds in them what was written
pub record IsWritten (state : State) (bytes : List ℕ) : Type 0 where
  pub file : File
  pub tested : finish_test state ≡ Ok tt
  pub finished : IsFinishedState state file
  pub kinds : KindsDiffer file.contents
  pub fits : Fits file
  pub text : bytes ≡ file_text file
  pub read_back : elf_of bytes ≡ Ok (written_elf file)

-- a finished package whose numbers don't fit the class of its file
pub record IsTooLarge (state : State) : Type 0 where
  pub file : File
  pub tested : finish_test state ≡ Ok tt
  pub finished : IsFinishedState state file
  pub unfit : ¬ Fits file

-- why nothing was written: the first error of finishing, or a number that doesn't fit
abbrev pub RefusesToWrite : State → ErrorValue → Type 0
RefusesToWrite state error = (finish_test state ≡ Err error)
    ⊎ ((error ≡ ObjectWrite writer.NumberTooLarge) × IsTooLarge state)

-- what was written
abbrev pub Writes : {V : Type 0} → (V → List ℕ) → State → Result V Error → Type 0
Writes view state (Ok bytes) = IsWritten state (view bytes)
Writes view state (Err e) = MemoryAside e (RefusesToWrite state (error_of e))
