-- The names of sections that become plain (GNU binutils, `--compress-debug-sections=zlib-gnu`), and
-- the table that has them (ELF gABI, "ELF Header", e_shstrndx).
use Rattle.std.specs.Prelude.{ℕ, ◌+◌, ◌*◌, List, [], ◌∷◌, ◌++◌, drop, codes, ◌==◌, slice_get}
use Rattle.std.specs.Prelude.{if◌then◌else◌, Option, Some, None}
use Rattle.dwp_elf_read.specs.Layout.{word_size, number_at}
use Rattle.dwp_elf_read.specs.Elf.{Elf, SectionMeaning}
use Rattle.dwp_decompress.specs.declared.asked.Asked.{Asked}
use Rattle.dwp_decompress.specs.Compressed.{is_older, is_compressed}

-- `.debug_X` for `.zdebug_X`; another name stays
unfoldable pub plain_name : List ℕ → List ℕ
plain_name name = if is_older name then codes ".debug_" ++ drop 8 name else name

-- the bytes that a table gets for that name
abbrev pub added_name : Option (List ℕ) → List ℕ
added_name None = []
added_name (Some name) = if is_older name then plain_name name ++ 0 ∷ [] else []

-- the bytes that it gets for a section
unfoldable pub added_name_of : Asked → SectionMeaning → List ℕ
added_name_of asked section = if is_compressed asked section then added_name section.name else []

-- the bytes that it gets for all sections
unfoldable pub added_names : Asked → List SectionMeaning → List ℕ
added_names asked [] = []
added_names asked (section ∷ sections) = added_name_of asked section ++ added_names asked sections

-- the section that section 0 names in place of the file's header
abbrev pub link_of : Option SectionMeaning → ℕ
link_of None = 0
link_of (Some section) = section.link

-- the number of the section that has the names; where e_shstrndx is SHN_XINDEX, section 0 says it
unfoldable pub names_number : List ℕ → Elf → ℕ
names_number bytes file =
    let stored = number_at file.order 2 bytes (38 + 3 * word_size file.class) in
    if stored == 0xffff then link_of (slice_get file.sections 0) else stored
