-- What the bytes of an ELF file mean (ELF gABI, "Sections").
use Rattle.std.specs.Prelude.{ℕ, ◌+◌, ◌*◌, List, [], Bool, false, ◌||◌, ◌&&◌, ◌==◌, nat_lt, not}
use Rattle.std.specs.Prelude.{map, drop}
use Rattle.std.specs.Prelude.{take, position, Option, Some, None, Result, Ok, Err, slice_range}
use Rattle.std.specs.Prelude.{if◌then◌else◌}
use Rattle.std.specs.Option.{ok_or, option_and_then}
use Rattle.std.specs.List.{range_with_len}
use Rattle.std.specs.Str.{is_utf8, bytes_eq}
use Rattle.std.specs.Int.Bits.{bit_and}
use Rattle.dwp_base.specs.Reading.{◌>>=◌}
use Rattle.dwp_base.specs.Sections.{name_of, compressed_name_of}
use Rattle.dwp_base.specs.declared.class.Class.{Class}
use Rattle.dwp_base.specs.declared.endian.Endianness.{Endianness}
use Rattle.dwp_base.specs.declared.section.SectionKind.{SectionKind}
use Rattle.dwp_elf_read.specs.declared.error.ReadError.{ReadError}
use Rattle.dwp_elf_read.specs.declared.error.ReadError.TheVariants.{SectionTable, SectionEntrySize}
use Rattle.dwp_elf_read.specs.declared.error.ReadError.TheVariants.{NameTable}
use Rattle.dwp_elf_read.specs.declared.image.FileHeader.{FileHeader}
use Rattle.dwp_elf_read.specs.declared.image.SectionHeader.{SectionHeader}
use Rattle.dwp_elf_read.specs.Layout.{word_size, entry_size, is_inside, file_header_of}
use Rattle.dwp_elf_read.specs.Layout.{section_header_of}
use Rattle.dwp_elf_read.specs.Identification.{identity_of}

-- a section: its name if that can be read, and its content if that lies in the file
pub record SectionMeaning : Type 0 where
  pub number : ℕ
  pub name : Option (List ℕ)
  pub kind : ℕ
  pub flags : ℕ
  pub address : ℕ
  pub size : ℕ
  pub content : Option (List ℕ)
  pub link : ℕ
  pub info : ℕ

-- an ELF file
pub record Elf : Type 0 where
  pub class : Class
  pub order : Endianness
  pub machine : ℕ
  pub sections : List SectionMeaning

-- SHT_NOBITS
abbrev pub SHT_NOBITS : ℕ
SHT_NOBITS = 8

-- a section occupies no bytes where its type is NOBITS, else those that its header names
unfoldable pub section_content : List ℕ → SectionHeader → Option (List ℕ)
section_content bytes header =
    if header.kind == SHT_NOBITS then Some []
    else (if is_inside bytes header.offset header.size
    then Some (slice_range bytes header.offset (header.offset + header.size))
    else None)

-- bytes that are text
unfoldable pub text_of : List ℕ → Option (List ℕ)
text_of bytes = if is_utf8 bytes then Some bytes else None

-- the text from a place of a string table to the next zero byte (ELF gABI, "String Table")
unfoldable pub text_at : List ℕ → ℕ → Option (List ℕ)
text_at table place =
    let rest = drop place table in
    option_and_then (λ n. text_of (take n rest)) (position (λ b. b == 0) rest)

-- the section that a header describes; where there is no name table, its name can't be read
unfoldable pub section_of : List ℕ → List ℕ → ℕ → SectionHeader → SectionMeaning
section_of bytes names number header = record {
  number = number;
  name = text_at names header.name;
  kind = header.kind;
  flags = header.flags;
  address = header.address;
  size = header.size;
  content = section_content bytes header;
  link = header.link;
  info = header.info;
}

-- the header of the i-th section
abbrev pub section_header_at : Class → Endianness → List ℕ → ℕ → ℕ → SectionHeader
section_header_at class order bytes table i =
    section_header_of (word_size class) order (drop (table + i * entry_size class) bytes)

-- the sections from number i on, n of them, each described by the header at its place
unfoldable pub sections_from : Class → Endianness → List ℕ → ℕ → List ℕ → ℕ → ℕ
    → List SectionMeaning
sections_from class order bytes table names i n =
    map (λ k.
    section_of bytes names k (section_header_at class order bytes table k)) (range_with_len i n)

-- how many sections the header names: where e_shnum is 0, the size of section 0 says it
unfoldable pub named_count : Class → Endianness → List ℕ → FileHeader → Result ℕ ReadError
named_count class order bytes header =
    if header.table == 0 then Ok 0
    else (if not (header.entry_size == entry_size class) then Err SectionEntrySize
    else (if not (header.count == 0) then Ok header.count
    else (if is_inside bytes header.table (entry_size class)
    then Ok (section_header_at class order bytes header.table 0).size
    else Err SectionTable)))

-- how many sections there are, all of whose headers lie in the file
unfoldable pub section_count : Class → Endianness → List ℕ → FileHeader → Result ℕ ReadError
section_count class order bytes header = do
  count ← named_count class order bytes header
  if is_inside bytes header.table (count * entry_size class) then Ok count else Err SectionTable

-- the number of the name table: where e_shstrndx is SHN_XINDEX, the link of section 0 says it
unfoldable pub name_table_number : Class → Endianness → List ℕ → FileHeader → Result ℕ ReadError
name_table_number class order bytes header =
    if not (header.names == 0xffff) then Ok header.names
    else (if header.table == 0 then Err NameTable
    else Ok (section_header_at class order bytes header.table 0).link)

-- the content of the name table with that number, which has to lie in the file; where the number is
-- 0, there is no table
unfoldable pub name_table_numbered : Class → Endianness → List ℕ → FileHeader → ℕ → ℕ
    → Result (List ℕ) ReadError
name_table_numbered class order bytes header count number =
    if number == 0 then Ok []
    else (if nat_lt number count
    then ok_or (section_content bytes (section_header_at class order bytes header.table number))
    NameTable
    else Err NameTable)

-- the content of the name table, or no bytes
unfoldable pub name_table : Class → Endianness → List ℕ → FileHeader → ℕ
    → Result (List ℕ) ReadError
name_table class order bytes header count = do
  number ← name_table_number class order bytes header
  name_table_numbered class order bytes header count number

-- what the bytes mean, or the first error
unfoldable pub elf_of : List ℕ → Result Elf ReadError
elf_of bytes = do
  identity ← identity_of bytes
  let header = file_header_of (word_size identity.0) identity.1 bytes
  count ← section_count identity.0 identity.1 bytes header
  names ← name_table identity.0 identity.1 bytes header count
  Ok (record {
    class = identity.0;
    order = identity.1;
    machine = header.machine;
    sections = sections_from identity.0 identity.1 bytes header.table names 0 count;
  })

-- a section has that name
abbrev pub name_is : List ℕ → Option (List ℕ) → Bool
name_is text None = false
name_is text (Some name) = bytes_eq name text

abbrev pub is_named : List ℕ → SectionMeaning → Bool
is_named text section = name_is text section.name

-- a name is one of the two spellings of a kind's
abbrev pub has_name : SectionKind → Option (List ℕ) → Bool
has_name kind name = name_is (name_of kind) name || name_is (compressed_name_of kind) name

-- it is the older one, of compressed sections
abbrev pub has_older_name : SectionKind → Option (List ℕ) → Bool
has_older_name kind name = name_is (compressed_name_of kind) name

-- a section has one of the two names of a kind
abbrev pub is_of : SectionKind → SectionMeaning → Bool
is_of kind section = has_name kind section.name

-- a section has no bytes
abbrev pub is_empty : SectionMeaning → Bool
is_empty section = section.size == 0 || section.kind == SHT_NOBITS

-- a section has bytes, and one of the two names of a kind
abbrev pub holds : SectionKind → SectionMeaning → Bool
holds kind section = not (is_empty section) && is_of kind section

-- the flag of a section whose content is compressed
abbrev pub SHF_COMPRESSED : ℕ
SHF_COMPRESSED = 0x800

-- it is set
abbrev pub has_compressed_flag : SectionMeaning → Bool
has_compressed_flag section = not (bit_and section.flags SHF_COMPRESSED == 0)
