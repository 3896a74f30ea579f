-- What a written file means to its readers (ELF gABI, "Sections").
use Rattle.std.specs.Prelude.{ℕ, ◌+◌, List, [], ◌∷◌, Some, length, codes}
use Rattle.dwp_base.specs.declared.section.SectionKind.{SectionKind}
use Rattle.dwp_base.specs.Sections.{name_of}
use Rattle.dwp_elf_read.specs.Elf.{Elf, SectionMeaning}
use Rattle.dwp_elf.specs.FileText.{Object, name_table}

-- a section of a type, with a name and a content and no more
abbrev pub plain_section : ℕ → ℕ → List ℕ → List ℕ → SectionMeaning
plain_section number kind name content = record {
  number = number;
  name = Some name;
  kind = kind;
  flags = 0;
  address = 0;
  size = length content;
  content = Some content;
  link = 0;
  info = 0;
}

-- the sections of contents, of type PROGBITS, and after them the name table, of type STRTAB
abbrev pub written_sections : ℕ → List ℕ → List (SectionKind × List ℕ) → List SectionMeaning
written_sections number names [] = plain_section number 3 (codes ".shstrtab") names ∷ []
written_sections number names (c ∷ cs) =
    plain_section number 1 (name_of c.0) c.1 ∷ written_sections (number + 1) names cs

-- the file: a null section, the contents in order under their names, and the name table
abbrev pub written_elf : Object → Elf
written_elf o = record {
  class = o.class;
  order = o.order;
  machine = o.machine;
  sections = plain_section 0 0 [] [] ∷ written_sections 1 (name_table o.contents) o.contents;
}
