-- The ELF file that a list of contents is written as (ELF gABI, "ELF Header", "Sections" and
-- "String Table").
use Rattle.std.specs.Prelude.{ℕ, ◌+◌, ◌-◌, ◌%◌, List, [], ◌∷◌, ◌++◌, length, replicate, codes}
use Rattle.dwp_base.specs.declared.class.Class.{Class}
use Rattle.dwp_base.specs.declared.class.Class.TheVariants.{Elf32, Elf64}
use Rattle.dwp_base.specs.declared.endian.Endianness.{Endianness}
use Rattle.dwp_base.specs.declared.endian.Endianness.TheVariants.{Little, Big}
use Rattle.dwp_base.specs.declared.section.SectionKind.{SectionKind}
use Rattle.dwp_base.specs.Numbers.{number_bytes}
use Rattle.dwp_base.specs.Sections.{name_of}
use Rattle.dwp_elf_read.specs.Layout.{word_size, header_size, entry_size}

-- what is written: contents, each under the name of its kind, in order
pub record Object : Type 0 where
  pub class : Class
  pub machine : ℕ
  pub order : Endianness
  pub contents : List (SectionKind × List ℕ)

-- a number of 2 bytes, one of 4, and an address, an offset or a size
abbrev pub half : Endianness → ℕ → List ℕ
half order x = number_bytes order 2 x

abbrev pub word : Endianness → ℕ → List ℕ
word order x = number_bytes order 4 x

abbrev pub wide : Class → Endianness → ℕ → List ℕ
wide class order x = number_bytes order (word_size class) x

-- the byte of the class, and that of the byte order ("ELF Identification")
abbrev pub class_byte : Class → ℕ
class_byte Elf32 = 1
class_byte Elf64 = 2

abbrev pub order_byte : Endianness → ℕ
order_byte Little = 1
order_byte Big = 2

-- the magic number, class, byte order, version 1 and nine zeros
abbrev pub identification : Class → Endianness → List ℕ
identification class order = 127 ∷ 69 ∷ 76 ∷ 70 ∷ class_byte class ∷ order_byte order ∷ 1 ∷ 0 ∷ 0
    ∷ 0 ∷ 0 ∷ 0 ∷ 0 ∷ 0 ∷ 0 ∷ 0 ∷ []

-- the contents, one after the other
unfoldable pub content_bytes : List (SectionKind × List ℕ) → List ℕ
content_bytes [] = []
content_bytes (c ∷ cs) = c.1 ++ content_bytes cs

-- the names of the contents, each ended by a zero byte
unfoldable pub names_of : List (SectionKind × List ℕ) → List ℕ
names_of [] = []
names_of (c ∷ cs) = (name_of c.0 ++ 0 ∷ []) ++ names_of cs

-- the content of `.shstrtab`: an empty name, the names of the contents, and its own
abbrev pub name_table : List (SectionKind × List ℕ) → List ℕ
name_table contents = 0 ∷ (names_of contents ++ (codes ".shstrtab" ++ 0 ∷ []))

-- how many sections the file has: the null section, the contents and `.shstrtab`
abbrev pub section_count : List (SectionKind × List ℕ) → ℕ
section_count contents = length contents + 2

-- where `.shstrtab` begins, and where it ends
abbrev pub names_place : Class → List (SectionKind × List ℕ) → ℕ
names_place class contents = header_size class + length (content_bytes contents)

abbrev pub names_end : Class → List (SectionKind × List ℕ) → ℕ
names_end class contents = names_place class contents + length (name_table contents)

-- how many zeros make a length a multiple of 8
abbrev pub zeros_after : ℕ → ℕ
zeros_after n = (8 - n % 8) % 8

-- where the section headers begin
abbrev pub headers_place : Class → List (SectionKind × List ℕ) → ℕ
headers_place class contents = names_end class contents + zeros_after (names_end class contents)

-- a relocatable file (1) of version 1, with no program headers, whose last section has the names
-- ("ELF Header")
unfoldable pub file_header : Class → Endianness → ℕ → ℕ → ℕ → List ℕ
file_header class order machine headers count =
    identification class order ++ half order 1 ++ half order machine ++ word order 1
    ++ wide class order 0 ++ wide class order 0 ++ wide class order headers ++ word order 0
    ++ half order (header_size class) ++ half order 0 ++ half order 0
    ++ half order (entry_size class) ++ half order count ++ half order (count - 1)

-- a section header: place of the name in the name table, type, no flags, no address, place, size,
-- no link, no information, alignment 1 and no entries ("Section Header")
unfoldable pub section_header : Class → Endianness → ℕ → ℕ → ℕ → ℕ → List ℕ
section_header class order name type place size =
    word order name ++ word order type ++ wide class order 0 ++ wide class order 0
    ++ wide class order place ++ wide class order size ++ word order 0 ++ word order 0
    ++ wide class order 1 ++ wide class order 0

-- the header of section 0, which is all zeros ("Special Section Indexes")
abbrev pub null_header : Class → List ℕ
null_header class = replicate (entry_size class) 0

-- the headers of contents of type PROGBITS (1), and after them that of `.shstrtab`, of type STRTAB
-- (3); the first name stands at `name` of the name table, and the first content at `place` of the
-- file
unfoldable pub headers_from : Class → Endianness → ℕ → ℕ → ℕ → List (SectionKind × List ℕ) → List ℕ
headers_from class order size name place [] = section_header class order name 3 place size
headers_from class order size name place (c ∷ cs) =
    section_header class order name 1 place (length c.1)
    ++ headers_from class order size (name + length (name_of c.0) + 1) (place + length c.1) cs

-- the section headers of a file
abbrev pub section_headers : Object → List ℕ
section_headers o =
    null_header o.class ++ headers_from o.class o.order (length (name_table o.contents)) 1
    (header_size o.class) o.contents

-- the whole file: header, contents, names, zeros up to a multiple of 8, section headers
unfoldable pub file_text : Object → List ℕ
file_text o =
    file_header o.class o.order o.machine (headers_place o.class o.contents)
    (section_count o.contents)
    ++ content_bytes o.contents ++ name_table o.contents
    ++ replicate (zeros_after (names_end o.class o.contents)) 0
    ++ section_headers o
