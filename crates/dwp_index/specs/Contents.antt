-- The contents of a package's sections (DWARF 5, 7.3.5; the GNU page DebugFissionDWP).
use Rattle.std.specs.Prelude.{ℕ, Bool, ◌||◌, List, [], Option, Some, None, Result, Ok, Err}
use Rattle.std.specs.Prelude.{if◌then◌else◌}
use Rattle.std.specs.List.{find}
use Rattle.std.specs.Option.{ok_or}
use Rattle.dwp_base.specs.ByKind.{value_of}
use Rattle.dwp_base.specs.Reading.{read_each}
use Rattle.dwp_base.specs.Sections.{all_kinds}
use Rattle.dwp_base.specs.declared.section.SectionKind.{SectionKind}
use Rattle.dwp_elf_read.specs.Elf.{SectionMeaning, has_compressed_flag, has_older_name, holds}
use Rattle.dwp_elf_read.specs.declared.error.ReadError.{ReadError}
use Rattle.dwp_elf_read.specs.declared.error.ReadError.TheVariants.{SectionRange, Compressed}

-- the contents of a package's sections, in the order of `all_kinds`; no bytes where a section is
-- missing
abbrev pub Sections : Type 0
Sections = List (List ℕ)

-- that of a kind
abbrev pub content : Sections → SectionKind → List ℕ
content sections kind = value_of [] sections kind

-- a section has bytes, and is one of that kind
unfoldable pub is_of_kind : SectionKind → SectionMeaning → Bool
is_of_kind kind section = holds kind section

-- the content of a section that is used: it isn't compressed, and lies in the file
unfoldable pub used_bytes : SectionKind → SectionMeaning → Result (List ℕ) ReadError
used_bytes kind section =
    if has_compressed_flag section || has_older_name kind section.name then Err Compressed
    else ok_or section.content SectionRange

abbrev pub bytes_of : SectionKind → Option SectionMeaning → Result (List ℕ) ReadError
bytes_of kind None = Ok []
bytes_of kind (Some section) = used_bytes kind section

-- the content of the first section of a kind that has bytes
unfoldable pub content_among : List SectionMeaning → SectionKind → Result (List ℕ) ReadError
content_among sections kind = bytes_of kind (find (is_of_kind kind) sections)

-- that of each kind
unfoldable pub contents_of : List SectionMeaning → Result Sections ReadError
contents_of sections = read_each (content_among sections) all_kinds
