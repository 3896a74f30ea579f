-- Where the numbers of an ELF file stand (ELF gABI, "ELF Header", "Section Header").
use Rattle.std.specs.Prelude.{ℕ, ◌+◌, ◌*◌, List, drop, Bool, nat_le, length}
use Rattle.dwp_base.specs.declared.class.Class.{Class}
use Rattle.dwp_base.specs.declared.class.Class.TheVariants.{Elf32, Elf64}
use Rattle.dwp_base.specs.declared.endian.Endianness.{Endianness}
use Rattle.dwp_base.specs.Numbers.{number}
use Rattle.dwp_elf_read.specs.declared.image.FileHeader.{FileHeader}
use Rattle.dwp_elf_read.specs.declared.image.SectionHeader.{SectionHeader}

-- the bytes of an address, an offset or a size
abbrev pub word_size : Class → ℕ
word_size Elf32 = 4
word_size Elf64 = 8

-- the bytes of the file's header
abbrev pub header_size : Class → ℕ
header_size Elf32 = 52
header_size Elf64 = 64

-- the bytes of a section's header
abbrev pub entry_size : Class → ℕ
entry_size Elf32 = 40
entry_size Elf64 = 64

-- the number of n bytes at a place
abbrev pub number_at : Endianness → ℕ → List ℕ → ℕ → ℕ
number_at order n bytes place = number order n (drop place bytes)

-- size bytes from a place on lie in the file
abbrev pub is_inside : List ℕ → ℕ → ℕ → Bool
is_inside bytes place size = nat_le (place + size) (length bytes)

-- what is read of the file's header; w is the size of a word
unfoldable pub file_header_of : ℕ → Endianness → List ℕ → FileHeader
file_header_of w order bytes = record {
  machine = number_at order 2 bytes 18;
  table = number_at order w bytes (24 + 2 * w);
  entry_size = number_at order 2 bytes (34 + 3 * w);
  count = number_at order 2 bytes (36 + 3 * w);
  names = number_at order 2 bytes (38 + 3 * w);
}

-- the section header that the bytes begin with
unfoldable pub section_header_of : ℕ → Endianness → List ℕ → SectionHeader
section_header_of w order bytes = record {
  name = number_at order 4 bytes 0;
  kind = number_at order 4 bytes 4;
  flags = number_at order w bytes 8;
  address = number_at order w bytes (8 + w);
  offset = number_at order w bytes (8 + 2 * w);
  size = number_at order w bytes (8 + 3 * w);
  link = number_at order 4 bytes (8 + 4 * w);
  info = number_at order 4 bytes (12 + 4 * w);
}
