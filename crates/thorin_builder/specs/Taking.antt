-- What comes of an input: its bytes taken, those at a path, those that an executable names.
use Rattle.std.specs.Prelude.{◌≡◌, ◌≢◌, ℕ, Bool, true, false, List, [], ◌∷◌, ◌++◌, take, length}
use Rattle.std.specs.Prelude.{Option, Some, None, Result, Ok, Err, OnOk, OnErr, ◌⊎◌, IsTrue}
use Rattle.std.specs.List.{list_any}
use Rattle.std.specs.declared.io.Error.{Error as IoError}
use Rattle.thorin_errors.specs.declared.error.Error.{Error}
use Rattle.thorin_errors.specs.declared.error.Error.TheVariants as error
use Rattle.thorin_errors.specs.declared.error.InputError.{InputError}
use Rattle.thorin_errors.specs.declared.error.InputError.TheVariants as input_error
use Rattle.thorin_errors.specs.Errors.{ErrorValue, error_of, Memory}
use Rattle.thorin_errors.specs.declared.error.MissingReferencedObjectBehaviour.{MissingReferencedObjectBehaviour}
use Rattle.thorin_errors.specs.declared.error.MissingReferencedObjectBehaviour.TheVariants as behaviour
use Rattle.thorin_executable.specs.Skeletons.{Listed, skeletons_of, named_skeletons_of}
use Rattle.dwp_table.specs.declared.object.DwarfObject.{DwarfObject}
use Rattle.dwp_table.specs.declared.object.DwarfObject.TheVariants.{Compilation, TypeUnit}
use Rattle.thorin_errors.specs.Answers.{Gives}
use Rattle.thorin_errors.specs.Inputs.{input_error}
use Rattle.thorin_join.specs.Builder.{State, names_in, taken}
use Rattle.thorin_join.specs.Join.{Joins}
use Rattle.thorin_input.specs.Names.{same_name, with_name}
use Rattle.thorin_join.specs.Represents.{units_in}

-- what came of a call: nothing, or its error
abbrev pub Outcome : Type 0
Outcome = Result (Unit {0}) Error

-- an input's bytes were taken, and their units joined; or they were refused for their first error,
-- want of memory aside, and then nothing changed
pub record Takes (bytes : List ℕ) (old : State) (outcome : Outcome) (new : State) : Type 0 where
  pub meaning : Gives (λ _. new) outcome (taken bytes old)
  pub joins : OnOk outcome (Joins bytes (units_in old) (units_in new))
  pub unchanged : OnErr outcome (new ≡ old)

-- the inputs that were accepted: these bytes, or none where they were refused
abbrev pub accepted_of : Outcome → List ℕ → List (List ℕ)
accepted_of (Ok x) bytes = bytes ∷ []
accepted_of (Err e) bytes = []

-- what came of a call that takes inputs: its outcome, the state after it, and the bytes of each
-- input that it accepted
pub record Came : Type 0 where
  pub outcome : Outcome
  pub new : State
  pub accepted : List (List ℕ)

-- the same, put together of these three
abbrev pub came : Outcome → State → List (List ℕ) → Came
came outcome new accepted = record { outcome = outcome; new = new; accepted = accepted }

-- the bytes were taken
abbrev pub TakesBytes : List ℕ → State → Came → Type 0
TakesBytes bytes old c =
    Takes bytes old c.outcome c.new × (c.accepted ≡ accepted_of c.outcome bytes)

-- nothing was taken, and nothing changed
abbrev pub TakesNothing : State → Came → Type 0
TakesNothing old c = (c.new ≡ old) × (c.accepted ≡ [])

-- a read answered what may be answered there, want of memory aside
abbrev pub MayRead : (Result (List ℕ) IoError → Type 0) → Result (List ℕ) InputError → Type 0
MayRead offered (Ok bytes) = offered (Ok bytes)
MayRead offered (Err (input_error.Io cause)) = offered (Err cause)
MayRead offered (Err input_error.Memory) = Unit {0}

-- what a read gave was taken; where it failed, that is the outcome, and nothing changed
abbrev pub TakesRead : Result (List ℕ) InputError → State → Came → Type 0
TakesRead (Ok bytes) old c = TakesBytes bytes old c
TakesRead (Err e) old c = (c.outcome ≡ Err (input_error e)) × TakesNothing old c

-- the file of an object was read: what that gave is among what the read may give, and was taken
pub record TakesFile (offered : Result (List ℕ) IoError
    → Type 0) (old : State) (outcome : Outcome) (new : State) : Type 0 where
  pub read : Result (List ℕ) InputError
  pub within : MayRead offered read
  pub accepted : List (List ℕ)
  pub taken : TakesRead read old (came outcome new accepted)

-- ---- executables

-- the units that executables refer to, with one more; a type unit isn't looked for when a package
-- is finished
abbrev pub with_target : DwarfObject → State → State
with_target (Compilation id) state =
    record state { targets = with_name state.targets (Compilation id) }
with_target (TypeUnit signature) state = state

-- a compilation unit that the package has needs no object
abbrev pub is_there : DwarfObject → State → Bool
is_there (Compilation id) state = list_any (same_name (Compilation id)) (names_in state.begun)
is_there (TypeUnit signature) state = false

-- an object that an executable refers to can't be read: it is passed over, or an error
abbrev pub PassesOver : MissingReferencedObjectBehaviour → IoError → Outcome → Type 0
PassesOver behaviour.Skip cause outcome = outcome ≡ Ok tt
PassesOver behaviour.Error cause outcome = outcome ≡ Err (error.ReadInput cause)

-- what a read of such an object gave was taken; a failed read alone may be passed over
abbrev pub TakesReferred : MissingReferencedObjectBehaviour → Result (List ℕ) InputError → State
    → Came → Type 0
TakesReferred missing (Ok bytes) old c = TakesBytes bytes old c
TakesReferred missing (Err (input_error.Io cause)) old c =
    PassesOver missing cause c.outcome × TakesNothing old c
TakesReferred missing (Err input_error.Memory) old c =
    (c.outcome ≡ Err error.Memory) × TakesNothing old c

-- a read of such an object may fail, and then it is passed over
pub record CanBePassedOver (offered : Result (List ℕ) IoError → Type 0)
    (missing : MissingReferencedObjectBehaviour) : Type 0 where
  pub cause : IoError
  pub fails : offered (Err cause)
  pub skips : missing ≡ behaviour.Skip

-- an object is told as unread only where its read can be passed over
abbrev pub IsUnread : (Result (List ℕ) IoError → Type 0) → MissingReferencedObjectBehaviour → Bool
    → Type 0
IsUnread offered missing is_unread = IsTrue is_unread → CanBePassedOver offered missing

-- the file of an object that an executable refers to was read: what that gave is among what the
-- read may give, and was taken
pub record TakesReferredFile (offered : Result (List ℕ) IoError → Type 0) (missing :
    MissingReferencedObjectBehaviour) (old : State) (outcome : Outcome) (new : State) : Type 0 where
  pub read : Result (List ℕ) InputError
  pub within : MayRead offered read
  pub accepted : List (List ℕ)
  pub taken : TakesReferred missing read old (came outcome new accepted)

-- a unit that isn't there was among the targets, and then its object was taken
pub record TakesAbsent (offer : List ℕ → Result (List ℕ) IoError → Type 0)
    (missing : MissingReferencedObjectBehaviour) (named : DwarfObject × List ℕ) (old : State)
    (c : Came) : Type 0 where
  pub absent : is_there named.0 old ≡ false
  pub file : TakesReferredFile (offer named.1) missing (with_target named.0 old) c.outcome c.new
  pub accepted_is : c.accepted ≡ file.accepted

-- a unit that an executable refers to, with the path of its object: it is there; or its object was
-- taken; or memory ran out before
abbrev pub TakesSkeleton : (List ℕ → Result (List ℕ) IoError → Type 0)
    → MissingReferencedObjectBehaviour → DwarfObject × List ℕ → State → Came → Type 0
TakesSkeleton offer missing named old c =
    ((is_there named.0 old ≡ true) × (c.outcome ≡ Ok tt) × TakesNothing old c)
    ⊎ (TakesAbsent offer missing named old c
    ⊎ ((c.outcome ≡ Err error.Memory) × TakesNothing old c))

-- what comes of a list's end: nothing, or the error that ended it
abbrev pub EndsWith : Option ErrorValue → Outcome → Type 0
EndsWith None outcome = outcome ≡ Ok tt
EndsWith (Some error) (Ok x) = ⊥
EndsWith (Some error) (Err e) = error_of e ≡ error

-- a state on the way, the bytes that were accepted up to it, and those after it
pub record Step : Type 0 where
  pub middle : State
  pub here : List (List ℕ)
  pub later : List (List ℕ)

-- after the first of a list: a refusal ends it there, with all that came before
abbrev pub GoesOn : Outcome → Step → Came → Type 0 → Type 0
GoesOn (Ok x) s c rest = rest × (c.accepted ≡ s.here ++ s.later)
GoesOn (Err e) s c rest = (c.outcome ≡ Err e) × (c.new ≡ s.middle) × (c.accepted ≡ s.here)

-- the units that an executable refers to, in order, up to the first refusal
abbrev pub TakesSkeletons : (List ℕ → Result (List ℕ) IoError → Type 0)
    → MissingReferencedObjectBehaviour → List (DwarfObject × List ℕ) → Option ErrorValue → State
    → Came → Type 0
TakesSkeletons offer missing [] error old c = EndsWith error c.outcome × TakesNothing old c
TakesSkeletons offer missing (named ∷ rest) error old c =
    (s : Step) × (first : Outcome)
    × TakesSkeleton offer missing named old (came first s.middle s.here)
    × GoesOn first s c
    (TakesSkeletons offer missing rest error s.middle (came c.outcome c.new s.later))

-- the units that an executable refers to and the error that ends their list; where memory ran out,
-- the first of them
pub record TakesNamed (offer : List ℕ → Result (List ℕ) IoError → Type 0)
    (missing : MissingReferencedObjectBehaviour) (meaning : Listed) (old : State) (c : Came) :
    Type 0 where
  pub named : List (DwarfObject × List ℕ)
  pub error : Option ErrorValue
  pub are : error ≢ Some Memory → meaning ≡ (named, error)
  pub front : take (length named) meaning.0 ≡ named
  pub taken : TakesSkeletons offer missing named error old c

-- what a read of an executable gave was taken; `names` says which units its bytes name
abbrev pub TakesExecutableRead : (names : List ℕ → Listed)
    → (List ℕ → Result (List ℕ) IoError → Type 0) → MissingReferencedObjectBehaviour
    → Result (List ℕ) InputError → State → Came → Type 0
TakesExecutableRead names offer missing (Ok bytes) old c =
    TakesNamed offer missing (names bytes) old c
TakesExecutableRead names offer missing (Err e) old c =
    (c.outcome ≡ Err (input_error e)) × TakesNothing old c

-- how an executable is taken: which units its bytes name, and what is done where one of their
-- objects can't be read
pub record Manner : Type 0 where
  pub names : List ℕ → Listed
  pub missing : MissingReferencedObjectBehaviour

-- the file of an executable was read: what that gave is among what the read may give, and was taken
pub record TakesExecutableBy (manner : Manner) (offer : List ℕ → Result (List ℕ) IoError → Type 0)
    (path : List ℕ) (old : State) (outcome : Outcome) (new : State) : Type 0 where
  pub read : Result (List ℕ) InputError
  pub within : MayRead (offer path) read
  pub accepted : List (List ℕ)
  pub taken : TakesExecutableRead manner.names offer manner.missing read old
      (came outcome new accepted)

-- where a unit that names no object is an error
abbrev pub all_named : MissingReferencedObjectBehaviour → Manner
all_named missing = record { names = skeletons_of; missing = missing }

abbrev pub TakesExecutable : (offer : List ℕ → Result (List ℕ) IoError → Type 0) → List ℕ
    → MissingReferencedObjectBehaviour → State → Outcome → State → Type 0
TakesExecutable offer path missing = TakesExecutableBy (all_named missing) offer path

-- where such a unit is passed over
abbrev pub nameless_skipped : MissingReferencedObjectBehaviour → Manner
nameless_skipped missing = record { names = named_skeletons_of; missing = missing }

abbrev pub TakesExecutableSkippingNameless : (offer : List ℕ → Result (List ℕ) IoError → Type 0)
    → List ℕ → MissingReferencedObjectBehaviour → State → Outcome → State → Type 0
TakesExecutableSkippingNameless offer path missing =
    TakesExecutableBy (nameless_skipped missing) offer path
