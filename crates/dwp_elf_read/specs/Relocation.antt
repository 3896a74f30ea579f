-- The relocations of a section (ELF gABI, "Relocation").
use Rattle.std.specs.Prelude.{ℕ, ◌+◌, ◌*◌, ◌/◌, ◌%◌, ◌^◌, ℤ, pos, List, [], ◌∷◌, ◌++◌, Bool, true}
use Rattle.std.specs.Prelude.{false, ◌&&◌, ◌||◌, ◌==◌, not, length, map, Result, Ok, Err}
use Rattle.std.specs.Prelude.{if◌then◌else◌}
use Rattle.std.specs.Option.{ok_or}
use Rattle.std.specs.List.{range_with_len}
use Rattle.std.specs.Int.{w32, w64, cast_signed}
use Rattle.dwp_base.specs.Reading.{◌>>=◌}
use Rattle.dwp_base.specs.declared.class.Class.{Class}
use Rattle.dwp_base.specs.declared.class.Class.TheVariants.{Elf32, Elf64}
use Rattle.dwp_base.specs.declared.endian.Endianness.{Endianness}
use Rattle.dwp_elf_read.specs.declared.error.ReadError.{ReadError}
use Rattle.dwp_elf_read.specs.declared.error.ReadError.TheVariants.{RelocationTable}
use Rattle.dwp_elf_read.specs.declared.relocation.RawRelocation.{RawRelocation}
use Rattle.dwp_elf_read.specs.Layout.{word_size, number_at}
use Rattle.dwp_elf_read.specs.Elf.{Elf, SectionMeaning}

-- SHT_RELA and SHT_REL
abbrev pub SHT_RELA : ℕ
SHT_RELA = 4

abbrev pub SHT_REL : ℕ
SHT_REL = 9

-- the type and the symbol that r_info names
abbrev pub type_of : Class → ℕ → ℕ
type_of Elf32 info = info % 2 ^ 8
type_of Elf64 info = info % 2 ^ 32

abbrev pub symbol_of : Class → ℕ → ℕ
symbol_of Elf32 info = info / 2 ^ 8
symbol_of Elf64 info = info / 2 ^ 32

-- a stored word as a signed number
abbrev pub signed_word : Class → ℕ → ℤ
signed_word Elf32 word = cast_signed w32 word
signed_word Elf64 word = cast_signed w64 word

-- the bytes of an entry: an offset and an info, and in RELA an addend
abbrev pub relocation_size : Class → Bool → ℕ
relocation_size class true = 3 * word_size class
relocation_size class false = 2 * word_size class

-- the addend of the entry at a place; in REL it is where the relocation is applied
abbrev pub addend_at : Class → Endianness → Bool → List ℕ → ℕ → ℤ
addend_at class order true bytes place =
    signed_word class (number_at order (word_size class) bytes (place + 2 * word_size class))
addend_at class order false bytes place = pos 0

-- the entry at a place of a table of REL or, where `explicit`, of RELA
unfoldable pub relocation_at : Class → Endianness → Bool → ℕ → List ℕ → ℕ → RawRelocation
relocation_at class order explicit link bytes place =
    let info = number_at order (word_size class) bytes (place + word_size class) in record {
      offset = number_at order (word_size class) bytes place;
      kind = type_of class info;
      symbol = symbol_of class info;
      table = link;
      addend = addend_at class order explicit bytes place;
      implicit_addend = not explicit;
    }

-- n entries of a table, from the i-th on
unfoldable pub entries_from : Class → Endianness → Bool → ℕ → List ℕ → ℕ → ℕ
    → List (Result RawRelocation ReadError)
entries_from class order explicit link bytes i n =
    map (λ k. Ok (relocation_at class order explicit link bytes (k
    * relocation_size class explicit))) (range_with_len i n)

-- a table has whole entries
abbrev pub has_whole_entries : Class → Bool → List ℕ → Bool
has_whole_entries class explicit content = length content % relocation_size class explicit == 0

abbrev pub entry_count : Class → Bool → List ℕ → ℕ
entry_count class explicit content = length content / relocation_size class explicit

-- a table's content, of whole entries
unfoldable pub table_of : Class → SectionMeaning → Result (List ℕ) ReadError
table_of class section = do
  content ← ok_or section.content RelocationTable
  if has_whole_entries class (section.kind == SHT_RELA) content then Ok content
      else Err RelocationTable

-- the section has relocations of the section numbered target
unfoldable pub relocates : ℕ → SectionMeaning → Bool
relocates target section =
    (section.kind == SHT_RELA || section.kind == SHT_REL) && section.info == target

-- the entries of a table and what follows them; nothing follows a table that can't be read
abbrev pub entries_then : Class → Endianness → SectionMeaning → Result (List ℕ) ReadError
    → List (Result RawRelocation ReadError) → List (Result RawRelocation ReadError)
entries_then class order section (Ok content) rest =
    entries_from class order (section.kind == SHT_RELA) section.link content 0
    (entry_count class (section.kind == SHT_RELA) content) ++ rest
entries_then class order section (Err e) rest = Err e ∷ []

-- the relocations of the section numbered target that some sections have, in order
unfoldable pub relocations_in : Class → Endianness → ℕ → List SectionMeaning
    → List (Result RawRelocation ReadError)
relocations_in class order target [] = []
relocations_in class order target (section ∷ sections) =
    if relocates target section
    then entries_then class order section (table_of class section)
    (relocations_in class order target sections)
    else relocations_in class order target sections

-- all relocations of a section, in file order, up to the first table that can't be read
abbrev pub relocations_of : Elf → ℕ → List (Result RawRelocation ReadError)
relocations_of file target = relocations_in file.class file.order target file.sections
