-- The values of symbols (ELF gABI, "Symbol Table").
use Rattle.std.specs.Prelude.{ℕ, ◌+◌, ◌*◌, List, ◌==◌, nat_lt, length, Option, Some, None, Result}
use Rattle.std.specs.Prelude.{Ok, Err, slice_get, if◌then◌else◌}
use Rattle.std.specs.Option.{ok_or}
use Rattle.dwp_base.specs.declared.class.Class.{Class}
use Rattle.dwp_base.specs.declared.class.Class.TheVariants.{Elf32, Elf64}
use Rattle.dwp_base.specs.declared.endian.Endianness.{Endianness}
use Rattle.dwp_base.specs.Reading.{◌>>=◌}
use Rattle.dwp_elf_read.specs.declared.error.ReadError.{ReadError}
use Rattle.dwp_elf_read.specs.declared.error.ReadError.TheVariants.{SymbolTable, SymbolIndex}
use Rattle.dwp_elf_read.specs.Layout.{word_size, number_at}
use Rattle.dwp_elf_read.specs.Elf.{Elf, SectionMeaning}

-- SHT_SYMTAB
abbrev pub SHT_SYMTAB : ℕ
SHT_SYMTAB = 2

-- the bytes of a symbol, and the place of st_value in it
abbrev pub symbol_size : Class → ℕ
symbol_size Elf32 = 16
symbol_size Elf64 = 24

abbrev pub value_place : Class → ℕ
value_place Elf32 = 4
value_place Elf64 = 8

-- the content of a section that is a symbol table
unfoldable pub symbols_of : Option SectionMeaning → Result (List ℕ) ReadError
symbols_of None = Err SymbolTable
symbols_of (Some section) =
    if section.kind == SHT_SYMTAB then ok_or section.content SymbolTable else Err SymbolTable

-- the value of the i-th symbol of a table's content
unfoldable pub value_in : Class → Endianness → List ℕ → ℕ → Result ℕ ReadError
value_in class order content i =
    if nat_lt (length content) (i * symbol_size class + symbol_size class) then Err SymbolIndex
    else Ok (number_at order (word_size class) content (i * symbol_size class + value_place class))

-- the value of symbol i of the table numbered so; that of STN_UNDEF, which is 0, is 0 (ELF gABI,
-- "Relocation")
unfoldable pub symbol_value_of : Elf → ℕ → ℕ → Result ℕ ReadError
symbol_value_of file table i =
    if i == 0 then Ok 0 else (symbols_of (slice_get file.sections table) >>= λ content.
    value_in file.class file.order content i)
