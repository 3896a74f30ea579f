-- The numbers of a file that its class limits: offsets and sizes of an ELF 32 file are below
-- 2 ^ 32, those of an ELF 64 file and its length below 2 ^ 64 (ELF gABI, "Data Representation").
use Rattle.std.specs.Prelude.{◌≡◌, ℕ, ◌+◌, ◌*◌, ◌^◌, ◌<◌, ◌≤◌, List, [], ◌∷◌, length}
use Rattle.std.specs.List.{All}
use Rattle.dwp_base.specs.declared.class.Class.{Class}
use Rattle.dwp_base.specs.declared.class.Class.TheVariants.{Elf32, Elf64}
use Rattle.dwp_base.specs.declared.section.SectionKind.{SectionKind}
use Rattle.dwp_elf_read.specs.Layout.{word_size, header_size, entry_size}
use Rattle.dwp_elf.specs.declared.output.Layout.{Layout}
use Rattle.dwp_elf.specs.FileText.{Object, headers_place, name_table, file_text, section_count}
use Rattle.dwp_elf.specs.FileText.{names_end, zeros_after}

-- place and size of each content, the first of which stands at `place`, and of `.shstrtab`
abbrev pub places_from : ℕ → ℕ → List (SectionKind × List ℕ) → List ℕ
places_from size place [] = place ∷ size ∷ []
places_from size place (c ∷ cs) = place ∷ length c.1 ∷ places_from size (place + length c.1) cs

-- the offsets and sizes that the headers hold
abbrev pub offsets_and_sizes : Object → List ℕ
offsets_and_sizes o = headers_place o.class o.contents
    ∷ places_from (length (name_table o.contents)) (header_size o.class) o.contents

-- the numbers that are limited
abbrev pub limited_by : Class → Object → List ℕ
limited_by Elf32 o = offsets_and_sizes o
limited_by Elf64 o = length (file_text o) ∷ offsets_and_sizes o

-- none of them passes the limit of the class
unfoldable pub Fits : Object → Type 0
Fits o = All (λ n. n < 2 ^ (8 * word_size o.class)) (limited_by o.class o)

-- how many bytes a file has
abbrev pub file_length : Class → List (SectionKind × List ℕ) → ℕ
file_length class contents =
    headers_place class contents + entry_size class * section_count contents

-- the greatest of the numbers that the class limits passes the limit
abbrev pub PassesLimit : Class → List (SectionKind × List ℕ) → Type 0
PassesLimit Elf32 contents = 2 ^ 32 ≤ headers_place Elf32 contents
PassesLimit Elf64 contents = 2 ^ 64 ≤ file_length Elf64 contents

-- the layout of a file none of whose numbers passes its limit
pub record IsLayout (class : Class) (contents : List (SectionKind × List ℕ))
    (p : Layout) : Type 0 where
  pub names_size : p.names_size ≡ length (name_table contents)
  pub zeros : p.zeros ≡ zeros_after (names_end class contents)
  pub headers : p.headers ≡ headers_place class contents
  pub size : p.size ≡ file_length class contents
  pub place_fits : headers_place class contents < 2 ^ (8 * word_size class)
  pub length_fits : file_length class contents < 2 ^ 64
