-- Files whose sections overlap, by their sizes: no byte of a file belongs to two of its sections
-- (ELF gABI, "Sections").
use Rattle.std.specs.Prelude.{ℕ, ◌+◌, List, length, sum_by, find, nat_lt, Bool, true, false}
use Rattle.std.specs.Prelude.{if◌then◌else◌, Option, Some, None, Result, Ok, Err}
use Rattle.std.specs.Option.{option_and_then}
use Rattle.dwp_base.specs.Sections.{kind_named}
use Rattle.dwp_base.specs.declared.section.SectionKind.{SectionKind}
use Rattle.dwp_base.specs.declared.section.SectionKind.TheVariants.{Info, Str, CuIndex, TuIndex}
use Rattle.dwp_elf_read.specs.declared.error.ReadError.{ReadError}
use Rattle.dwp_elf_read.specs.Elf.{Elf, SectionMeaning, is_empty, is_of, holds}

-- of strings and of each index the first section that has bytes is used, of other kinds each
abbrev pub is_used_once : Option SectionKind → Bool
is_used_once None = true
is_used_once (Some Str) = true
is_used_once (Some CuIndex) = true
is_used_once (Some TuIndex) = true
is_used_once (Some kind) = false

-- how many bytes of a section are used if each of its kind is
abbrev pub each_size : SectionMeaning → ℕ
each_size section =
    if is_empty section then 0
    else (if is_used_once (option_and_then kind_named section.name) then 0 else section.size)

-- how many the first of a kind has
abbrev pub size_of : Option SectionMeaning → ℕ
size_of None = 0
size_of (Some section) = section.size

abbrev pub first_size : SectionKind → List SectionMeaning → ℕ
first_size kind sections = size_of (find (holds kind) sections)

-- how many bytes the used sections of an object or a package have; none is used where there is none
-- of units
abbrev pub used_beside : Option SectionMeaning → List SectionMeaning → ℕ
used_beside None sections = 0
used_beside (Some units) sections =
    sum_by each_size sections + first_size Str sections + first_size CuIndex sections
    + first_size TuIndex sections

unfoldable pub used_size : List SectionMeaning → ℕ
used_size sections = used_beside (find (is_of Info) sections) sections

-- of a file
abbrev pub used_of : Result Elf ReadError → ℕ
used_of (Ok file) = used_size file.sections
used_of (Err e) = 0

-- they have more bytes than the file
abbrev pub overlaps : List ℕ → Result Elf ReadError → Bool
overlaps bytes file = nat_lt (length bytes) (used_of file)
