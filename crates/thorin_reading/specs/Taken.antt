-- What is taken for a file that is read, decompressed where that is asked for.
use Rattle.std.specs.Prelude.{◌≡◌, ℕ, List, Bool, true, false, Result, Ok, Err}
use Rattle.std.specs.IoError.{error_kind}
use Rattle.std.specs.declared.io.Error.{Error as IoError}
use Rattle.std.specs.declared.io.ErrorKind.TheVariants.{OutOfMemory}
use Rattle.thorin_find.specs.Files.{Offer}
use Rattle.thorin_inputs.specs.Plain.{IsPlainOf}

-- the bytes as they are, or plain ones
abbrev pub IsTaken : (decompresses : Bool) → (bytes taken : List ℕ) → Type 0
IsTaken false bytes taken = taken ≡ bytes
IsTaken true bytes taken = IsPlainOf bytes taken

-- what comes of a file that was read, unless there is no memory for that; a read that failed stays
-- failed
abbrev pub IsTakenRead : (decompresses : Bool) → (read taken : Result (List ℕ) IoError) → Type 0
IsTakenRead decompresses (Ok bytes) (Ok taken) = IsTaken decompresses bytes taken
IsTakenRead decompresses (Ok bytes) (Err cause) = error_kind cause ≡ OutOfMemory
IsTakenRead decompresses (Err cause) taken = taken ≡ Err cause

-- what a read of the file at a path may answer
pub record Takes (decompresses : Bool) (offer : Offer) (path : List ℕ)
    (taken : Result (List ℕ) IoError) : Type 0 where
  pub read : Result (List ℕ) IoError
  pub offered : offer path read
  pub is_taken : IsTakenRead decompresses read taken
