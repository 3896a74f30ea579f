-- What writing to a writer did, and what a refusal to write means.
use Rattle.std.specs.Prelude.{ℕ, ◌<◌, List, length, take, Option, Result, Ok, Err, ⊤}
use Rattle.std.specs.Io.KnownBytes.{Appends, Keeps}
use Rattle.std.specs.IoError.{error_kind}
use Rattle.std.specs.declared.io.Error.{Error}
use Rattle.std.specs.declared.io.ErrorKind.{ErrorKind}
use Rattle.dwp_elf_read.specs.declared.error.WriteError.{WriteError}
use Rattle.dwp_elf_read.specs.declared.error.WriteError.TheVariants.{NumberTooLarge, Memory, Io}
use Rattle.dwp_elf.specs.FileText.{Object, file_text}
use Rattle.dwp_elf.specs.Numbers.{Fits}

-- known bytes grew by a beginning of bs that isn't the whole of it
pub record AppendsPart (old new : Option (List ℕ)) (bs : List ℕ) : Type 0 where
  pub count : ℕ
  pub part : count < length bs
  pub appended : Appends old new (take count bs)

-- bs was written, or at an error a beginning of it
abbrev pub Writes : {X E : Type 0} → Result X E → Option (List ℕ) → Option (List ℕ)
    → List ℕ → Type 0
Writes (Ok x) old new bs = Appends old new bs
Writes (Err e) old new bs = AppendsPart old new bs

-- an error is one at which a write failed; without an error no write failed; `old` and `new` are
-- the kinds of error at which one has failed before and after
abbrev pub Errors : {X : Type 0} → Result X Error → (ErrorKind → Type 0)
    → (ErrorKind → Type 0) → Type 0
Errors (Ok x) old new = (kind : ErrorKind) → new kind → old kind
Errors (Err e) old new = new (error_kind e)

-- a file that is made in memory: a number is too large, or else memory ran out
abbrev pub RefusesFile : Object → WriteError → Type 0
RefusesFile o NumberTooLarge = ¬ Fits o
RefusesFile o Memory = Fits o
RefusesFile o (Io e) = ⊥

-- a file that is handed to a writer: a number is too large and nothing was written, or else the
-- writer failed and has a beginning of the file
abbrev pub RefusesWriter : Object → Option (List ℕ) → Option (List ℕ) → WriteError → Type 0
RefusesWriter o old new NumberTooLarge = (¬ Fits o) × Keeps old new
RefusesWriter o old new Memory = ⊥
RefusesWriter o old new (Io e) = Fits o × AppendsPart old new (file_text o)

-- an error of a writer is one at which a write failed; `failed` are the kinds of those
abbrev pub Blames : (ErrorKind → Type 0) → WriteError → Type 0
Blames failed NumberTooLarge = ⊤
Blames failed Memory = ⊤
Blames failed (Io e) = failed (error_kind e)
