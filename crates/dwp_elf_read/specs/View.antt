-- What the values of this crate stand for.
use Rattle.std.specs.Prelude.{ℕ, ◌-◌, List, [], ◌∷◌, ◌++◌, map, Result, Ok, Err}
use Rattle.dwp_elf_read.specs.declared.error.ReadError.{ReadError}
use Rattle.dwp_elf_read.specs.declared.file.ElfFile.{ElfFile}
use Rattle.dwp_elf_read.specs.declared.section.Section.{Section}
use Rattle.dwp_elf_read.specs.declared.section.Sections.{Sections}
use Rattle.dwp_elf_read.specs.declared.relocation.RawRelocation.{RawRelocation}
use Rattle.dwp_elf_read.specs.declared.relocation.Table.{Table}
use Rattle.dwp_elf_read.specs.declared.relocation.Relocations.{Relocations}
use Rattle.dwp_elf_read.specs.Elf.{Elf, SectionMeaning, sections_from, section_of}
use Rattle.dwp_elf_read.specs.Elf.{section_header_at}
use Rattle.dwp_elf_read.specs.Relocation.{entries_from, relocations_in}

-- the i-th section of a file
abbrev pub nth : ElfFile → ℕ → SectionMeaning
nth f i = section_of f.image.bytes.now f.names.now i
    (section_header_at f.image.class f.image.order f.image.bytes.now f.table i)

-- the sections of a file from number i on
unfoldable pub sections_after : ElfFile → ℕ → List SectionMeaning
sections_after f i = sections_from f.image.class f.image.order f.image.bytes.now f.table
    f.names.now i (f.count - i)

-- a file
unfoldable pub elf : ElfFile → Elf
elf f = record {
  class = f.image.class;
  order = f.image.order;
  machine = f.machine;
  sections = sections_after f 0;
}

-- a section, and the file that it stands in
unfoldable pub section : Section → SectionMeaning
section s = section_of s.file.image.bytes.now s.file.names.now s.number s.header

unfoldable pub file : Section → Elf
file s = elf s.file

-- the bytes of a file, and those of the file that a section stands in
unfoldable pub bytes_of : ElfFile → List ℕ
bytes_of f = f.image.bytes.now

unfoldable pub file_bytes : Section → List ℕ
file_bytes s = bytes_of s.file

-- a section in its file
pub record Placed : Type 0 where
  pub file : Elf
  pub section : SectionMeaning

abbrev pub placed : Section → Placed
placed s = record { file = file s; section = section s }

-- all sections of a file, in it
abbrev pub placed_sections : Elf → List SectionMeaning → List Placed
placed_sections f sections = map (λ s. record { file = f; section = s }) sections

-- the sections that an iterator has left
unfoldable pub sections_left : Sections → List Placed
sections_left it = placed_sections (elf it.file) (sections_after it.file it.next)

-- the entries that are left of a table
unfoldable pub entries_left : Table → List (Result RawRelocation ReadError)
entries_left t = entries_from t.entries.class t.entries.order t.explicit t.link t.entries.bytes.now
    t.next (t.count - t.next)

-- the entries of a table and what follows them; nothing follows one that can't be read
abbrev pub begun : Result Table ReadError → List (Result RawRelocation ReadError)
    → List (Result RawRelocation ReadError)
begun (Ok t) rest = entries_left t ++ rest
begun (Err e) rest = Err e ∷ []

-- the relocations that an iterator has left
unfoldable pub relocations_left : Relocations → List (Result RawRelocation ReadError)
relocations_left it = entries_left it.table ++ relocations_in it.file.image.class
    it.file.image.order it.target (sections_after it.file it.section)
