-- Files with plain sections in place of compressed ones.
use Rattle.std.specs.Prelude.{◌≡◌, ◌⊎◌, ⊤, ℕ, List, Option, Some, None, Result, Ok, Err}
use Rattle.std.specs.Global.{Vec}
use Rattle.dwp_elf_read.specs.Elf.{Elf, elf_of}
use Rattle.dwp_elf_read.specs.declared.error.ReadError.{ReadError}
use Rattle.dwp_decompress.specs.declared.error.DecompressError.{DecompressError}
use Rattle.dwp_decompress.specs.Result.{decompressed_of}
use Rattle.dwp_decompress.specs.declared.asked.Asked.TheVariants.{OfUnits}
use Rattle.thorin_inputs.specs.declared.plain.PlainError.{PlainError}
use Rattle.thorin_inputs.specs.declared.plain.PlainError.TheVariants.{Unread}

-- bytes with plain sections, by what these are. Bytes of which no section that is asked for is
-- compressed stay as they are, and so do those of which one can't be read: who uses it refuses it
abbrev pub IsPlain : (bytes plain : List ℕ)
    → Result (Option (Result Elf ReadError)) DecompressError → Type 0
IsPlain bytes plain (Ok (Some meaning)) = elf_of plain ≡ meaning
IsPlain bytes plain (Ok None) = plain ≡ bytes
IsPlain bytes plain (Err e) = plain ≡ bytes

-- why a section can't be read is the error that is met first
abbrev pub LeavesUnread : PlainError → Result (Option (Result Elf ReadError)) DecompressError
    → Type 0
LeavesUnread (Unread error) meaning = meaning ≡ Err error
LeavesUnread e meaning = ⊤

-- what a command that reads takes for a file: it has plain sections, or stays as it is, also where
-- no file can have these
unfoldable pub IsPlainOf : (file taken : List ℕ) → Type 0
IsPlainOf file taken = IsPlain file taken (decompressed_of OfUnits file) ⊎ (taken ≡ file)

-- the plain bytes where there are any, else the content
abbrev pub or_content : List ℕ → Option (Vec ℕ) → List ℕ
or_content content None = content
or_content content (Some plain) = plain.items
