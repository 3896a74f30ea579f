-- How large a package becomes: what inputs add to its contents, and what finishing adds (DWARF 5,
-- 7.3.5 and 7.3.5.3).
use Rattle.std.specs.Prelude.{◌≡◌, ℕ, ◌+◌, ◌*◌, List, [], ◌∷◌, length, Option, slice_get, Result}
use Rattle.std.specs.Prelude.{Ok, Err, MatchOption, if◌then◌else◌}
use Rattle.std.specs.List.{sum_by}
use Rattle.dwp_base.specs.declared.section.SectionKind.TheVariants.{Str, StrOffsets}
use Rattle.dwp_base.specs.Reading.{◌>>=◌}
use Rattle.dwp_base.specs.Sections.{kind_count, same_kind}
use Rattle.dwp_elf_read.specs.Elf.{Elf}
use Rattle.dwp_table.specs.Table.{HasSlots}
use Rattle.thorin_index.specs.declared.entry.IndexEntry.{IndexEntry}
use Rattle.thorin_index.specs.IndexText.{used_sections}
use Rattle.thorin_errors.specs.Errors.{ErrorValue}
use Rattle.dwp_elf.specs.Growing.{Contents}
use Rattle.thorin_input.specs.Used.{Used, opened, has_info, counts_once, input_file_of, first}
use Rattle.thorin_join.specs.Builder.{with_input, compilations, type_units}
use Rattle.thorin_join.specs.StandApart.{contents_begun}
use Rattle.thorin_join.specs.State.{InProgress}

-- the bytes of all contents
abbrev pub bytes_of_contents : Contents → ℕ
bytes_of_contents contents = sum_by (λ c. length c.1) contents

-- those of a package in progress, where an input has begun one: its strings and its indexes aren't
-- among its contents before it is finished
abbrev pub bytes_begun : Option InProgress → ℕ
bytes_begun begun = bytes_of_contents (contents_begun begun)

-- the used sections of an ELF file; an input without an info section has none
unfoldable pub sections_in : Elf → Result (List Used) ErrorValue
sections_in file =
    if has_info file then (input_file_of file >>= λ object. Ok object.sections) else Ok []

-- none where an input can't be opened, or one of them can't be used
abbrev pub or_none : Result (List Used) ErrorValue → List Used
or_none (Ok sections) = sections
or_none (Err error) = []

unfoldable pub sections_of_input : List ℕ → List Used
sections_of_input bytes = or_none (opened bytes >>= sections_in)

-- the bytes of the used sections of an input
abbrev pub used_size : List ℕ → ℕ
used_size bytes = sum_by (λ used. length used.bytes) (sections_of_input bytes)

-- the same without strings and indexes, which a package has of its own
abbrev pub carried : Used → ℕ
carried used = if counts_once used.kind then 0 else length used.bytes

abbrev pub carried_size : List ℕ → ℕ
carried_size bytes = sum_by carried (sections_of_input bytes)

-- the bytes of an input's string offsets, and of its section of strings
abbrev pub offsets_used : Used → ℕ
offsets_used used = if same_kind used.kind StrOffsets then length used.bytes else 0

abbrev pub offsets_size : List ℕ → ℕ
offsets_size bytes = sum_by offsets_used (sections_of_input bytes)

abbrev pub strings_size : List ℕ → ℕ
strings_size bytes = length (first Str (sections_of_input bytes))

-- what inputs make of a package, one after another, or the first error
unfoldable pub with_inputs : List (List ℕ) → Option InProgress
    → Result (Option InProgress) ErrorValue
with_inputs [] begun = Ok begun
with_inputs (bytes ∷ inputs) begun = do
  next ← with_input bytes begun
  with_inputs inputs next

-- the bytes of strings, each with the zero byte that ends it
abbrev pub bytes_of_strings : List (List ℕ) → ℕ
bytes_of_strings strings = sum_by (λ string. length string + 1) strings

-- the bytes of an index of so many slots: a header of 16, an identifier and a row number for each
-- slot, and 4 for each column and for each offset and each size of a row
abbrev pub bytes_of_index : (slots columns rows : ℕ) → ℕ
bytes_of_index slots columns rows = 16 + 12 * slots + 4 * columns + 8 * (rows * columns)

-- no entries have no index; else it has as many slots as their number wants, and a column for each
-- kind of section that one of them has a part of
abbrev pub IsSizeOfIndex : List IndexEntry → ℕ → Type 0
IsSizeOfIndex entries size = MatchOption (slice_get entries 0) (size ≡ 0) (λ first.
    (slots : ℕ) × HasSlots (length entries) slots
    × (size ≡ bytes_of_index slots (length (used_sections entries)) (length entries)))

-- a finished file's contents are those in progress, the strings and both indexes
pub record IsSizeFinished (made : InProgress) (size : ℕ) : Type 0 where
  pub compilation_index : ℕ
  pub type_index : ℕ
  pub of_compilations : IsSizeOfIndex (compilations made.rows) compilation_index
  pub of_types : IsSizeOfIndex (type_units made.rows) type_index
  pub is : size ≡ bytes_of_contents made.file.contents + bytes_of_strings made.strings
      + compilation_index + type_index

-- what the ELF file of a package has beside its contents at most: a header of 64 bytes, a section
-- header of 64 for each kind and for two more sections, a name of 23 for each kind, 11 more bytes
-- of names, and 7 zeros (ELF gABI, ELF Header, Section Header, String Table)
abbrev pub container_most : ℕ
container_most = 64 + (kind_count + 2) * 64 + kind_count * 23 + 11 + 7
