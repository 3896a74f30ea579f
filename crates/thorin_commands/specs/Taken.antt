-- What is taken for the bytes of an input, and which bytes are declined.
use Rattle.std.specs.Prelude.{◌≡◌, ℕ, List, Bool, true, false, Result, Ok, Err, ◌⊎◌, IsSome}
use Rattle.std.specs.declared.io.Error.{Error as IoError}
use Rattle.dwp_elf_read.specs.Elf.{elf_of}
use Rattle.dwp_decompress.specs.Compressed.{HasCompressed}
use Rattle.dwp_decompress.specs.Result.{decompressed_of}
use Rattle.dwp_decompress.specs.Sizes as decompressing
use Rattle.dwp_decompress.specs.declared.asked.Asked.TheVariants.{OfUnits}
use Rattle.dwp_macros.specs.Kept.{kept_macros_of}
use Rattle.dwp_macros.specs.declared.kept.KeptMacros.{KeptMacros}
use Rattle.thorin_builder.specs.declared.reader.NotTaken.{NotTaken}
use Rattle.thorin_builder.specs.declared.reader.NotTaken.TheVariants.{Failed, Declined}
use Rattle.thorin_errors.specs.declared.error.InputError.{InputError}
use Rattle.thorin_inputs.specs.InnerStrings.{has_inner_strings}
use Rattle.thorin_inputs.specs.Macros.{IsKeptOf}
use Rattle.thorin_inputs.specs.Overlaps.{overlaps}
use Rattle.thorin_inputs.specs.Plain.{IsPlain}
use Rattle.thorin_inputs.specs.declared.growth.Growth.{Growth}
use Rattle.thorin_inputs.specs.declared.growth.Growth.TheVariants as growth
use Rattle.thorin_output.specs.Reads.{IsReadOver}

-- what a read of the file at a path may answer
abbrev pub Offer : Type 1
Offer = List ℕ → Result (List ℕ) IoError → Type 0

-- how inputs are taken: whether compressed sections are made plain, whether sections and strings
-- may overlap, and which of an object's sections of macros are kept
pub record Manner : Type 0 where
  pub decompresses : Bool
  pub allows_overlap : Bool
  pub macros : KeptMacros

-- ---- what is taken

-- bytes with plain sections where that is asked for, else as they are
unfoldable pub IsPlainFor : (decompresses : Bool) → (bytes plain : List ℕ) → Type 0
IsPlainFor true bytes plain = IsPlain bytes plain (decompressed_of OfUnits bytes)
IsPlainFor false bytes plain = plain ≡ bytes

-- and then only the macros that are kept have bytes
pub record IsTakenFor (manner : Manner) (bytes taken : List ℕ) : Type 0 where
  pub plain : List ℕ
  pub is_plain : IsPlainFor manner.decompresses bytes plain
  pub keeps : IsKeptOf manner.macros plain taken

-- the same of a file that was read; a read that failed stays failed
abbrev pub IsTakenRead : Manner → (read taken : Result (List ℕ) IoError) → Type 0
IsTakenRead manner (Ok file) (Ok taken) = IsTakenFor manner file taken
IsTakenRead manner (Ok file) (Err e) = ⊥
IsTakenRead manner (Err e) taken = taken ≡ Err e

-- what is taken for the file at a path
pub record OffersTaken (manner : Manner) (offer : Offer) (path : List ℕ)
    (taken : Result (List ℕ) IoError) : Type 0 where
  pub read : Result (List ℕ) IoError
  pub offered : offer path read
  pub takes : IsTakenRead manner read taken

-- ---- what is declined

-- a file is declined as one that was read before: no input's own, where that isn't allowed without
-- bounds
abbrev pub MayRepeat : (allows_overlap own : Bool) → Type 0
MayRepeat allows_overlap own = (own ≡ false) × (allows_overlap ≡ false)

-- a read into room answered what may be answered there, want of memory aside; or it was declined so
abbrev pub IsReadInto : (Result (List ℕ) IoError → Type 0) → (may_repeat : Type 0)
    → (room : List ℕ) → Result (Unit {0}) (NotTaken InputError Growth) → Type 0
IsReadInto offered may_repeat room (Ok x) = offered (Ok room)
IsReadInto offered may_repeat room (Err (Failed e)) = IsReadOver offered room (Err e)
IsReadInto offered may_repeat room (Err (Declined growth.Repetition)) = may_repeat
IsReadInto offered may_repeat room (Err (Declined why)) = ⊥

-- sections overlap: those that are used, or those that are to be decompressed
abbrev pub HasOverlap : Manner → List ℕ → Type 0
HasOverlap manner bytes = (overlaps bytes (elf_of bytes) ≡ true)
    ⊎ ((manner.decompresses ≡ true)
    × (decompressing.overlaps OfUnits bytes (elf_of bytes) ≡ true))

-- plain bytes are declined: many of their strings begin inside others, where that isn't allowed; or
-- macros are to go
abbrev pub DeclinesPlain : Manner → List ℕ → Growth → Type 0
DeclinesPlain manner plain growth.Strings =
    (manner.allows_overlap ≡ false) × (has_inner_strings plain (elf_of plain) ≡ true)
DeclinesPlain manner plain growth.Macros = IsSome (kept_macros_of manner.macros plain)
DeclinesPlain manner plain _ = ⊥

-- bytes are declined: their sections overlap, where that isn't allowed; some that are compressed
-- are to be decompressed; or their plain bytes are declined
abbrev pub DeclinesBytes : Manner → List ℕ → Growth → Type 0
DeclinesBytes manner bytes growth.Sections =
    (manner.allows_overlap ≡ false) × HasOverlap manner bytes
DeclinesBytes manner bytes growth.Plain =
    (manner.decompresses ≡ true) × HasCompressed OfUnits (elf_of bytes)
DeclinesBytes manner bytes why =
    (plain : List ℕ) × IsPlainFor manner.decompresses bytes plain × DeclinesPlain manner plain why

-- the file at a path is declined, an input's own or one that an executable names: it is one that
-- was read before; or its bytes are
abbrev pub Declines : Manner → Offer → (own : Bool) → (path : List ℕ) → Growth → Type 0
Declines manner offer own path growth.Repetition = MayRepeat manner.allows_overlap own
Declines manner offer own path why =
    (bytes : List ℕ) × offer path (Ok bytes) × DeclinesBytes manner bytes why
