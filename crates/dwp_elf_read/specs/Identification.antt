-- The first bytes of a file (ELF gABI, "ELF Identification"; ar(5) for archives).
use Rattle.std.specs.Prelude.{ℕ, List, [], ◌∷◌, Result, Ok, Err, length, nat_lt, nat_eq, ◌==◌}
use Rattle.std.specs.Prelude.{slice_index, codes, if◌then◌else◌, ◌++◌}
use Rattle.std.specs.List.{starts_with}
use Rattle.dwp_base.specs.Reading.{◌>>=◌}
use Rattle.dwp_base.specs.declared.class.Class.{Class}
use Rattle.dwp_base.specs.declared.class.Class.TheVariants as classes
use Rattle.dwp_base.specs.declared.endian.Endianness.{Endianness}
use Rattle.dwp_base.specs.declared.endian.Endianness.TheVariants.{Little, Big}
use Rattle.dwp_elf_read.specs.declared.error.ReadError.{ReadError}
use Rattle.dwp_elf_read.specs.declared.error.ReadError.TheVariants.{TooShort, NotElf, ByteOrder}
use Rattle.dwp_elf_read.specs.declared.error.ReadError.TheVariants.{Version}
use Rattle.dwp_elf_read.specs.declared.kind.FileKind.{FileKind}
use Rattle.dwp_elf_read.specs.declared.kind.FileKind.TheVariants.{Archive, Elf32, Elf64}
use Rattle.dwp_elf_read.specs.Layout.{header_size}

-- the first line of an archive, and of a thin one
abbrev pub archive_magic : List ℕ
archive_magic = codes "!<arch>" ++ 10 ∷ []

abbrev pub thin_magic : List ℕ
thin_magic = codes "!<thin>" ++ 10 ∷ []

-- 7f and `ELF`
abbrev pub elf_magic : List ℕ
elf_magic = 127 ∷ codes "ELF"

-- the kind of ELF file that EI_CLASS names
abbrev pub elf_kind : ℕ → Result FileKind ReadError
elf_kind class = if class == 1 then Ok Elf32 else (if class == 2 then Ok Elf64 else Err NotElf)

-- what the first 16 bytes are those of
unfoldable pub kind_of : List ℕ → Result FileKind ReadError
kind_of bytes =
    if nat_lt (length bytes) 16 then Err TooShort
    else (if starts_with nat_eq bytes archive_magic then Ok Archive
    else (if starts_with nat_eq bytes thin_magic then Ok Archive
    else (if starts_with nat_eq bytes elf_magic then elf_kind (slice_index bytes 4)
    else Err NotElf)))

-- the class of an ELF file; an archive has none
abbrev pub class_of : FileKind → Result Class ReadError
class_of Archive = Err NotElf
class_of Elf32 = Ok classes.Elf32
class_of Elf64 = Ok classes.Elf64

-- the byte order that EI_DATA names
abbrev pub order_of : ℕ → Result Endianness ReadError
order_of data_encoding =
    if data_encoding == 1 then Ok Little else (if data_encoding == 2 then Ok Big else Err ByteOrder)

-- class and byte order, of a file that has a whole header of version 1
unfoldable pub identity_of : List ℕ → Result (Class × Endianness) ReadError
identity_of bytes = do
  kind ← kind_of bytes
  class ← class_of kind
  order ← if nat_lt (length bytes) (header_size class) then Err TooShort
      else order_of (slice_index bytes 5)
  if slice_index bytes 6 == 1 then Ok (class, order) else Err Version
