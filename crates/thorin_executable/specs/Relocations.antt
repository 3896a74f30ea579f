-- What the relocations of an executable's section make of the numbers in it (ELF gABI,
-- "Relocation"; the types are those of the processor supplements for x86-64, i386 and AArch64).
use Rattle.std.specs.Prelude.{ℕ, ◌+◌, ◌%◌, ◌^◌, Bool, false, ◌==◌, ◌||◌, List, [], ◌∷◌, Option}
use Rattle.std.specs.Prelude.{Some, None, is_some, Result, Ok, Err, if◌then◌else◌}
use Rattle.std.specs.Ordering.{nat_cmp}
use Rattle.std.specs.Int.{w64, cast_unsigned}
use Rattle.std.specs.BTreeMap.{insert_entry, is_at}
use Rattle.std.specs.Map.{lookup}
use Rattle.dwp_base.specs.Reading.{◌>>=◌}
use Rattle.dwp_elf_read.specs.declared.error.ReadError.{ReadError}
use Rattle.dwp_elf_read.specs.declared.error.ReadError.TheVariants.{NameRange}
use Rattle.dwp_elf_read.specs.declared.relocation.RawRelocation.{RawRelocation}
use Rattle.dwp_elf_read.specs.Elf.{Elf}
use Rattle.dwp_elf_read.specs.Symbol.{symbol_value_of}
use Rattle.dwp_bytes.specs.declared.relocation.Relocation.{Relocation}
use Rattle.dwp_bytes.specs.declared.relocation.RelocationEntry.{RelocationEntry}
use Rattle.thorin_errors.specs.Errors.{ErrorValue, NamelessSection, UnsupportedRelocation}
use Rattle.thorin_errors.specs.Errors.{RelocationWithInvalidSymbol, MultipleRelocations, ObjectRead}

-- machines, and their relocations that store a symbol's value plus an addend (the processor
-- supplements of the ELF specification)
abbrev pub EM_386 : ℕ
EM_386 = 3

abbrev pub EM_X86_64 : ℕ
EM_X86_64 = 62

abbrev pub EM_AARCH64 : ℕ
EM_AARCH64 = 183

abbrev pub R_X86_64_64 : ℕ
R_X86_64_64 = 1

abbrev pub R_X86_64_32 : ℕ
R_X86_64_32 = 10

abbrev pub R_X86_64_32S : ℕ
R_X86_64_32S = 11

abbrev pub R_X86_64_16 : ℕ
R_X86_64_16 = 12

abbrev pub R_X86_64_8 : ℕ
R_X86_64_8 = 14

abbrev pub R_386_32 : ℕ
R_386_32 = 1

abbrev pub R_386_16 : ℕ
R_386_16 = 20

abbrev pub R_386_8 : ℕ
R_386_8 = 22

abbrev pub R_AARCH64_ABS64 : ℕ
R_AARCH64_ABS64 = 257

abbrev pub R_AARCH64_ABS32 : ℕ
R_AARCH64_ABS32 = 258

abbrev pub R_AARCH64_ABS16 : ℕ
R_AARCH64_ABS16 = 259

-- the type of a relocation that stores a symbol's value plus an addend, of 8, 4, 2 or 1 bytes
abbrev pub is_absolute : ℕ → ℕ → Bool
is_absolute machine kind =
    if machine == EM_X86_64 then kind == R_X86_64_64 || kind == R_X86_64_32 || kind == R_X86_64_32S
    || kind == R_X86_64_16 || kind == R_X86_64_8
    else (if machine == EM_386 then kind == R_386_32 || kind == R_386_16 || kind == R_386_8
    else (if machine == EM_AARCH64 then kind == R_AARCH64_ABS64 || kind == R_AARCH64_ABS32
    || kind == R_AARCH64_ABS16
    else false))

-- an error of a relocation names its section and its place; without a name the error is that
abbrev pub at_place : (List ℕ → ℕ → ErrorValue) → Option (List ℕ) → ℕ → ErrorValue
at_place error None place = NamelessSection NameRange place
at_place error (Some name) place = error name place

-- the value of a relocation's symbol
abbrev pub symbol_or : ErrorValue → Result ℕ ReadError → Result ℕ ErrorValue
symbol_or error (Ok value) = Ok value
symbol_or error (Err e) = Err error

-- what a relocation makes of the number at its place: its type is absolute, and its symbol can be
-- read
unfoldable pub relocation_of : Elf → Option (List ℕ) → RawRelocation → Result Relocation ErrorValue
relocation_of file name raw =
    if is_absolute file.machine raw.kind then (do
      value ← symbol_or (at_place RelocationWithInvalidSymbol name raw.offset)
          (symbol_value_of file raw.table raw.symbol)
      Ok (record {
        addend = (cast_unsigned w64 raw.addend + value) % 2 ^ 64;
        implicit_addend = raw.implicit_addend;
      }))
    else Err (at_place UnsupportedRelocation name raw.offset)

-- a relocation stands at the place already
abbrev pub is_taken : List (ℕ × Relocation) → ℕ → Bool
is_taken found place = is_some (lookup (is_at (nat_cmp place)) found)

-- the relocations by their places, in order, and one more; no second stands at a place
unfoldable pub with_relocation : Elf → Option (List ℕ) → RawRelocation → List (ℕ × Relocation)
    → Result (List (ℕ × Relocation)) ErrorValue
with_relocation file name raw found = do
  relocation ← relocation_of file name raw
  if is_taken found raw.offset then Err (at_place MultipleRelocations name raw.offset)
      else Ok (insert_entry nat_cmp found raw.offset relocation)

-- the same for each relocation that a file has, in its order; a table that can't be read ends them
unfoldable pub with_relocations : Elf → Option (List ℕ) → List (Result RawRelocation ReadError)
    → List (ℕ × Relocation) → Result (List (ℕ × Relocation)) ErrorValue
with_relocations file name [] found = Ok found
with_relocations file name (Err e ∷ rest) found = Err (ObjectRead e)
with_relocations file name (Ok raw ∷ rest) found =
    with_relocation file name raw found >>= with_relocations file name rest

-- an entry as a place and what becomes of the number there
abbrev pub pair_of : RelocationEntry → ℕ × Relocation
pair_of entry = (entry.offset, entry.relocation)
