-- What the exports that pack answer.
use Rattle.std.specs.Prelude.{◌≡◌, ◌≢◌, ℕ, ℤ, pos, ◌<◌, ◌≤◌, if◌then◌else◌, List, [], map}
use Rattle.std.specs.Prelude.{take, drop, length, Result, Ok, Err, ◌⊎◌}
use Rattle.std.specs.List.{HoldsAt}
use Rattle.thorin_errors.specs.Answers.{MemoryAside}
use Rattle.thorin_errors.specs.Errors.{ErrorValue, error_of}
use Rattle.thorin_errors.specs.declared.error.Error.{Error}
use Rattle.thorin_errors.specs.declared.error.Error.TheVariants as errors
use Rattle.thorin_join.specs.Builder.{State, start, taken, differing_in}
use Rattle.thorin_join.specs.Join.{JoinAll, IsPackageOf}
use Rattle.thorin_join.specs.Meaning.{Members}
use Rattle.thorin_again.specs.Own.{packs_again}
use Rattle.thorin_join.specs.Represents.{units_in}
use Rattle.thorin.specs.Again.{IsTakenAgain}
use Rattle.thorin.specs.Groups.{taken_each}
use Rattle.thorin.specs.Run.{IsWritten, RefusesToWrite}
use Rattle.thorin_c.specs.Errors.{Tells}
use Rattle.thorin_c.specs.Listing.{written_over}
use Rattle.thorin_c.specs.declared.packing.RefusedInput.{RefusedInput}
use Rattle.thorin_c.specs.declared.types.ThorinBytes.{ThorinBytes}
use Rattle.thorin_c.specs.declared.types.ThorinReport.{ThorinReport}
use Rattle.std.specs.declared.io.Error.{Error as IoError}

-- a read of a path gives nothing
abbrev pub no_files : List ℕ → Result (List ℕ) IoError → Type 0
no_files path (Ok bytes) = ⊥
no_files path (Err cause) = Unit {0}

-- the bytes of each input
abbrev pub bytes_of : List ThorinBytes → List (List ℕ)
bytes_of inputs = map (λ input. input.bytes.now) inputs

-- each input is taken, and its units are joined to those before
pub record Accepts (inputs : List ThorinBytes) (old new : State) : Type 0 where
  pub taken : taken_each (bytes_of inputs) old ≡ Ok new
  pub joined : JoinAll (bytes_of inputs) (units_in old) (units_in new)

-- the input of this number isn't taken, and those before it are accepted: it is refused for this
-- error, want of memory aside
pub record StopsAt (inputs : List ThorinBytes) (old : State) (number : ℕ)
    (error : Error) : Type 0 where
  pub within : number < length inputs
  pub state : State
  pub before : Accepts (take number inputs) old state
  pub refused : MemoryAside error
      (HoldsAt (λ input. taken input.bytes.now state ≡ Err (error_of error)) inputs number)

-- all inputs are accepted; the bytes are the file of the finished package, a package of their
-- joined units; so many type units were passed over that differ from those kept; and 1 where it is
-- taken as an input again
pub record IsPackage (inputs : List ThorinBytes) (differing again : ℕ)
    (bytes : List ℕ) : Type 0 where
  pub state : State
  pub accepted : Accepts inputs start state
  pub written : IsWritten state bytes
  pub package_of : IsPackageOf (units_in state) bytes
  pub differ : differing ≡ length (differing_in state)
  pub packs : again ≡ (if packs_again state then 1 else 0)

-- the bytes, which have the joined units of these inputs, are taken as an input again: by a new
-- builder, and by any other of their byte order, unless a compilation unit is there already or the
-- offset of a string doesn't fit
pub record ArePackedAgain (inputs : List ThorinBytes) (bytes : List ℕ) : Type 0 where
  pub units : Members
  pub joined : JoinAll (bytes_of inputs) [] units
  pub again : IsTakenAgain units bytes

-- all inputs are accepted, and the package can't be finished or written for this error, want of
-- memory aside, which there is with no input none of
pub record Leaves (inputs : List ThorinBytes) (error : Error) : Type 0 where
  pub state : State
  pub accepted : Accepts inputs start state
  pub refused : MemoryAside error (RefusesToWrite state (error_of error))
  pub memory : error ≡ errors.Memory → 0 < length inputs

-- why inputs weren't packed: one isn't taken, or the package can't be finished or written
abbrev pub IsFailure : List ThorinBytes → RefusedInput → Type 0
IsFailure inputs refusal = StopsAt inputs start refusal.number refusal.error
    ⊎ ((refusal.number ≡ length inputs) × Leaves inputs refusal.error)

-- what is told of a refused input; never want of memory
pub record TellsRefused (number : ℕ) (error : Error) (report : ThorinReport) : Type 0 where
  pub input : report.input ≡ number
  pub told : Tells (error_of error) report
  pub not_memory : error ≢ errors.Memory

-- the package stands at the beginning of the room, the rest of which is as it was
pub record Packs (inputs : List ThorinBytes) (report : ThorinReport)
    (old new : List ℕ) : Type 0 where
  pub fits : report.size ≤ length new
  pub is : IsPackage inputs report.differing report.packs_again (take report.size new)
  pub rest : drop report.size new ≡ drop report.size old

-- the package has a size past the room
pub record Needs (inputs : List ThorinBytes) (report : ThorinReport) (room : ℕ) : Type 0 where
  pub bytes : List ℕ
  pub is : IsPackage inputs report.differing report.packs_again bytes
  pub size : report.size ≡ length bytes
  pub past : room < report.size

-- the first input that is refused, those before it being accepted, and its error
pub record Refuses (inputs : List ThorinBytes) (report : ThorinReport) : Type 0 where
  pub error : ErrorValue
  pub within : report.input < length inputs
  pub state : State
  pub before : Accepts (take report.input inputs) start state
  pub refused : HoldsAt (λ input. taken input.bytes.now state ≡ Err error) inputs report.input
  pub told : Tells error report

-- all inputs are accepted, and why the package can't be finished or written
pub record TellsUnfinished (inputs : List ThorinBytes) (report : ThorinReport) : Type 0 where
  pub error : ErrorValue
  pub state : State
  pub accepted : Accepts inputs start state
  pub refused : RefusesToWrite state error
  pub told : Tells error report

-- memory ran out while the input of this number was taken, those before it being accepted
pub record RunsOutAt (inputs : List ThorinBytes) (number : ℕ) : Type 0 where
  pub within : number < length inputs
  pub state : State
  pub before : Accepts (take number inputs) start state

-- memory ran out while the package of all inputs was finished and written; their number stands in
-- the place of an input's
pub record RunsOutAfter (inputs : List ThorinBytes) (number : ℕ) : Type 0 where
  pub some : 0 < number
  pub all : number ≡ length inputs
  pub state : State
  pub accepted : Accepts inputs start state

-- the signatures of the type units that were passed over and differ, as far as there is room, and
-- how many there are
pub record Differ (inputs : List ThorinBytes) (report : ThorinReport)
    (old new : List ℕ) : Type 0 where
  pub state : State
  pub accepted : Accepts inputs start state
  pub count : report.differing ≡ length (differing_in state)
  pub signatures : new ≡ written_over old (differing_in state)

-- which fields of a report are written: at a package, at a refused input, at a package that can't
-- be finished, where memory ran out; the others are as they were
abbrev pub TellsOfPackage : ThorinReport → ThorinReport → Type 0
TellsOfPackage old new = new ≡ record old {
  size = new.size;
  differing = new.differing;
  packs_again = new.packs_again;
}

abbrev pub TellsOfInput : ThorinReport → ThorinReport → Type 0
TellsOfInput old new = new ≡ record old {
  input = new.input;
  fault = new.fault;
  text_size = new.text_size;
  text = new.text;
}

abbrev pub TellsOfError : ThorinReport → ThorinReport → Type 0
TellsOfError old new = new ≡ record old {
  fault = new.fault;
  text_size = new.text_size;
  text = new.text;
}

abbrev pub TellsOfMemory : ThorinReport → ThorinReport → Type 0
TellsOfMemory old new = new ≡ record old { input = new.input }

-- the same where the type units that differ are asked for
abbrev pub TellsOfDiffering : ThorinReport → ThorinReport → Type 0
TellsOfDiffering old new = new ≡ record old { differing = new.differing }

-- by the status
abbrev pub TellsAlone : (ThorinReport → ThorinReport → Type 0) → ℤ → ThorinReport → ThorinReport
    → Type 0
TellsAlone Done status old new = ((status ≡ pos 0) ⊎ (status ≡ pos 10) → Done old new)
    × (status ≡ pos 11 → TellsOfInput old new) × (status ≡ pos 12 → TellsOfError old new)
    × (status ≡ pos 13 → TellsOfMemory old new)

-- what may be answered
abbrev pub IsPackingStatus : ℤ → Type 0
IsPackingStatus status = (status ≡ pos 0)
    ⊎ ((status ≡ pos 10) ⊎ ((status ≡ pos 11) ⊎ ((status ≡ pos 12) ⊎ (status ≡ pos 13))))

abbrev pub IsDifferingStatus : ℤ → Type 0
IsDifferingStatus status = (status ≡ pos 0) ⊎ ((status ≡ pos 11) ⊎ (status ≡ pos 13))
