-- What sessions read, and what they place.
use Rattle.std.specs.Prelude.{◌≡◌, ◌≢◌, ℕ, List, Result, Ok, Err, Option, Some, None, String, Vec}
use Rattle.std.specs.Prelude.{IsErrAnd}
use Rattle.std.specs.Borrow.{Bor}
use Rattle.std.specs.BTreeMap.{BTreeMap, get_by_text}
use Rattle.std.specs.IoError.{error_kind}
use Rattle.std.specs.declared.alloc.Global.{Global}
use Rattle.std.specs.declared.io.Error.{Error as IoError}
use Rattle.std.specs.declared.io.ErrorKind.TheVariants.{NotFound, OutOfMemory}
use Rattle.std.specs.declared.borrow.CowSlice.{CowSlice}
use Rattle.std.specs.declared.borrow.CowSlice.TheVariants.{Borrowed, Owned}
use Rattle.thorin_errors.specs.declared.error.InputError.{InputError}
use Rattle.thorin_errors.specs.declared.error.InputError.TheVariants as input

-- a fact about borrowed bytes
abbrev pub OnBorrowed : {A Z : Type 0} → CowSlice A Z → Type 0 → Type 0
OnBorrowed (Borrowed _) P = P
OnBorrowed (Owned _) P = Unit {0}

-- a read answered what may be answered there, want of memory aside
abbrev pub IsOffered : (Result (List ℕ) IoError → Type 0)
    → Result (Bor (List ℕ)) InputError → Type 0
IsOffered offered (Ok bytes) = offered (Ok bytes.now)
IsOffered offered (Err (input.Io cause)) = offered (Err cause)
IsOffered offered (Err input.Memory) = Unit {0}

-- the cause isn't want of memory
abbrev pub IsNoWantOfMemory : InputError → Type 0
IsNoWantOfMemory (input.Io cause) = error_kind cause ≢ OutOfMemory
IsNoWantOfMemory input.Memory = Unit {0}

-- files by their paths
abbrev pub FileMap : Type 0
FileMap = BTreeMap (String Global) (Vec ℕ Global)

-- an error that tells that there is no file
abbrev pub OffersNone : Result (List ℕ) IoError → Type 0
OffersNone answer = IsErrAnd answer (λ cause. error_kind cause ≡ NotFound)

-- what is said of a file that may be there
abbrev pub OffersFile : Option (Vec ℕ Global) → Result (List ℕ) IoError → Type 0
OffersFile (Some file) answer = answer ≡ Ok file.items
OffersFile None answer = OffersNone answer

-- the bytes of the file at the path, or an error that tells that there is none
abbrev pub MapOffers : FileMap → List ℕ → Result (List ℕ) IoError → Type 0
MapOffers files path answer = OffersFile (get_by_text files path) answer
