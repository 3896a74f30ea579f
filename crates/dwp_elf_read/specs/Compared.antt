-- What is compared of two sections.
use Rattle.dwp_elf_read.specs.Elf.{SectionMeaning}

-- a section with the name, flags, size and content of another
unfoldable pub with_own : SectionMeaning → SectionMeaning → SectionMeaning
with_own own section = record section {
  name = own.name;
  flags = own.flags;
  size = own.size;
  content = own.content;
}
