-- What a reader of inputs answers, and what comes of a call that reads by it.
use Rattle.std.specs.Prelude.{◌≡◌, ◌⊎◌, ◌∷◌, ◌++◌, ℕ, Bool, true, false, List, None, Result, Ok}
use Rattle.std.specs.Prelude.{Err}
use Rattle.std.specs.Borrow.{Bor}
use Rattle.std.specs.declared.io.Error.{Error as IoError}
use Rattle.thorin_errors.specs.declared.error.Error.{Error}
use Rattle.thorin_errors.specs.declared.error.Error.TheVariants as error
use Rattle.thorin_errors.specs.declared.error.InputError.{InputError}
use Rattle.thorin_errors.specs.declared.error.InputError.TheVariants as input
use Rattle.thorin_errors.specs.Inputs.{input_error}
use Rattle.thorin_errors.specs.declared.error.MissingReferencedObjectBehaviour.{MissingReferencedObjectBehaviour}
use Rattle.thorin_executable.specs.Skeletons.{Listed, Named}
use Rattle.thorin_join.specs.Builder.{State}
use Rattle.thorin_sessions.specs.Sessions.{IsOffered}
use Rattle.thorin_builder.specs.Taking.{Manner, Outcome, TakesSkeletons, came}
use Rattle.thorin_builder.specs.declared.reader.NotTaken.{NotTaken}
use Rattle.thorin_builder.specs.declared.reader.NotTaken.TheVariants.{Failed, Declined}

-- what is said of the reason for which a reader declined an input
abbrev pub OnDeclined : {X E D : Type 0} → Result X (NotTaken E D) → (D → Type 0) → Type 0
OnDeclined (Err (Declined why)) P = P why
OnDeclined (Err (Failed e)) P = Unit {0}
OnDeclined (Ok x) P = Unit {0}

-- what is said of why it failed
abbrev pub OnFailed : {X E D : Type 0} → Result X (NotTaken E D) → (E → Type 0) → Type 0
OnFailed (Err (Failed e)) P = P e
OnFailed (Err (Declined why)) P = Unit {0}
OnFailed (Ok x) P = Unit {0}

-- a reader gave what may be offered, want of memory aside; or it declines the file
abbrev pub IsRead : {D : Type 0} → (offered : Result (List ℕ) IoError → Type 0)
    → (declines : D → Type 0) → Result (Bor (List ℕ)) (NotTaken InputError D) → Type 0
IsRead offered declines (Ok bytes) = offered (Ok bytes.now)
IsRead offered declines (Err (Failed e)) = IsOffered offered (Err e)
IsRead offered declines (Err (Declined why)) = declines why

-- the object of a unit that an executable names is declined for a reason: of the units that are
-- listed those before it were taken
pub record DeclinesNamed {D : Type 0} (offer : List ℕ → Result (List ℕ) IoError → Type 0)
    (declines : (own : Bool) → List ℕ → D → Type 0) (missing : MissingReferencedObjectBehaviour)
    (listed : Listed) (old : State) (why : D) : Type 0 where
  pub front : List Named
  pub named : Named
  pub rest : List Named
  pub list_is : listed.0 ≡ front ++ named ∷ rest
  pub state : State
  pub accepted : List (List ℕ)
  pub took : TakesSkeletons offer missing front None old (came (Ok tt) state accepted)
  pub declined : declines false named.1 why

-- an executable is declined for a reason: the file at its path is; or that was read, and the object
-- of a unit that its bytes name is
abbrev pub DeclinesExecutable : {D : Type 0} → Manner
    → (offer : List ℕ → Result (List ℕ) IoError → Type 0)
    → (declines : (own : Bool) → List ℕ → D → Type 0) → (path : List ℕ) → State → D → Type 0
DeclinesExecutable manner offer declines path old why = declines true path why
    ⊎ ((bytes : List ℕ) × offer path (Ok bytes)
    × DeclinesNamed offer declines manner.missing (manner.names bytes) old why)

-- why an input wasn't taken that wasn't read
abbrev pub unread : {D : Type 0} → NotTaken InputError D → NotTaken Error D
unread (Failed e) = Failed (input_error e)
unread (Declined why) = Declined why

-- of an input that its reader declines nothing is taken, as where memory runs out for it
abbrev pub error_in : {D : Type 0} → NotTaken Error D → Error
error_in (Failed e) = e
error_in (Declined why) = error.Memory

abbrev pub input_error_in : {D : Type 0} → NotTaken InputError D → InputError
input_error_in (Failed e) = e
input_error_in (Declined why) = input.Memory

abbrev pub outcome_of : {D : Type 0} → Result (Unit {0}) (NotTaken Error D) → Outcome
outcome_of (Ok x) = Ok x
outcome_of (Err e) = Err (error_in e)
