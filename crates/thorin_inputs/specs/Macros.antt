-- Files of which only the macros that are kept have bytes.
use Rattle.std.specs.Prelude.{◌≡◌, ℕ, List, Result, Option, Some, None}
use Rattle.dwp_elf_read.specs.Elf.{Elf, elf_of}
use Rattle.dwp_elf_read.specs.declared.error.ReadError.{ReadError}
use Rattle.dwp_macros.specs.Kept.{kept_macros_of}
use Rattle.dwp_macros.specs.declared.kept.KeptMacros.{KeptMacros}

-- what is taken for a file: one that is so, where macros go; else the file as it is
abbrev pub HasKept : (file taken : List ℕ) → Option (Result Elf ReadError) → Type 0
HasKept file taken (Some meaning) = elf_of taken ≡ meaning
HasKept file taken None = taken ≡ file

unfoldable pub IsKeptOf : KeptMacros → (file taken : List ℕ) → Type 0
IsKeptOf kept file taken = HasKept file taken (kept_macros_of kept file)
