-- Strings that begin inside others (DWARF 5, 7.26): a few bytes of string offsets could name as
-- many ends of one long string.
use Rattle.std.specs.Prelude.{ℕ, zero, suc, ◌+◌, ◌-◌, ◌*◌, ◌/◌, ◌%◌, min, max, nat_lt, ◌==◌, ◌&&◌}
use Rattle.std.specs.Prelude.{◌||◌, Bool, false, not, if◌then◌else◌, List, [], length, drop, find}
use Rattle.std.specs.Prelude.{sum_by, slice_get, Option, Some, None, Result, Ok, Err}
use Rattle.std.specs.List.{list_any, range_with_len}
use Rattle.std.specs.Option.{option_map, unwrap_or}
use Rattle.dwp_base.specs.Numbers.{number}
use Rattle.dwp_base.specs.declared.endian.Endianness.{Endianness}
use Rattle.dwp_base.specs.declared.section.Contribution.{Contribution}
use Rattle.dwp_base.specs.declared.section.SectionKind.{SectionKind}
use Rattle.dwp_base.specs.declared.section.SectionKind.TheVariants.{Info, Str, StrOffsets}
use Rattle.dwp_base.specs.declared.section.SectionKind.TheVariants.{CuIndex, TuIndex}
use Rattle.dwp_bytes.specs.StringOffsets.{string_from}
use Rattle.dwp_bytes.specs.declared.error.ReadError.{ReadError as IndexError}
use Rattle.dwp_elf_read.specs.declared.error.ReadError.{ReadError}
use Rattle.dwp_elf_read.specs.Elf.{Elf, SectionMeaning, is_of, holds, has_compressed_flag}
use Rattle.dwp_index.specs.Index.{Index, Ranges, row_in, range_in}
use Rattle.dwp_index.specs.IndexBytes.{index_of}
use Rattle.thorin_inputs.specs.Repetitions.{LEAST_ROOM}

-- ---- places in a section of strings

-- how many bytes a string has that begins at a place: those up to the zero byte, and it; or those
-- up to the section's end, where there is none
abbrev pub string_size : (strings : List ℕ) → (at : ℕ) → ℕ
string_size strings at = min (length (string_from strings at) + 1) (length strings - at)

-- a byte is one of a string
abbrev pub is_filled : Option ℕ → Bool
is_filled None = false
is_filled (Some byte) = not (byte == 0)

-- a string that begins at a place begins inside another: the byte before isn't zero
abbrev pub begins_inside : (strings : List ℕ) → (at : ℕ) → Bool
begins_inside strings zero = false
begins_inside strings (suc before) = is_filled (slice_get strings before)

-- how many bytes the strings have at places of the section, each place taken once
abbrev pub sizes_at : (strings : List ℕ) → (is_taken : ℕ → Bool) → ℕ
sizes_at strings is_taken =
    sum_by (λ at. if is_taken at then string_size strings at else 0)
    (range_with_len 0 (length strings))

-- ---- string offsets

-- how many words of 4 bytes so many bytes have, of which one begins at each so many bytes
abbrev pub word_count : (step size : ℕ) → ℕ
word_count step size = (size + step - 4) / step

-- one of these words is a number
abbrev pub has_word : Endianness → (step : ℕ) → (bytes : List ℕ) → ℕ → Bool
has_word order step bytes n =
    list_any (λ i. number order 4 (drop (i * step) bytes) == n)
    (range_with_len 0 (word_count step (length bytes)))

-- the plain content of a section; none of one that is compressed, or that isn't in the file
abbrev pub plain_content : SectionMeaning → List ℕ
plain_content section =
    if has_compressed_flag section then [] else unwrap_or section.content []

-- a section is one of string offsets, and a word of it names a place of the strings
abbrev pub names : Endianness → (step : ℕ) → (at : ℕ) → SectionMeaning → Bool
names order step at section =
    holds StrOffsets section && has_word order step (plain_content section) at

-- ---- rows of an index

-- a range begins between words
abbrev pub is_between : Option Contribution → Bool
is_between None = false
is_between (Some range) = not (range.offset.0 % 4 == 0)

-- a row's string offsets do
abbrev pub is_row_between : Result Ranges IndexError → Bool
is_row_between (Ok row) = is_between (range_in row StrOffsets)
is_row_between (Err e) = false

-- those of some row of an index do
abbrev pub has_row_between : Result Index IndexError → Bool
has_row_between (Ok index) =
    list_any (λ r. is_row_between (row_in index (r + 1)))
    (range_with_len 0 (length index.offsets))
has_row_between (Err e) = false

-- ---- a file

-- the content of the first section of a kind that has bytes, if there is one
abbrev pub first_content : SectionKind → List SectionMeaning → Option (List ℕ)
first_content kind sections = option_map plain_content (find (holds kind) sections)

-- or nothing
abbrev pub or_nothing : Option (List ℕ) → List ℕ
or_nothing content = unwrap_or content []

-- a word of string offsets begins at each 4 bytes, or at each byte, where those of a row of one of
-- two indexes begin between words
abbrev pub step_by : Endianness → (compilations types : List ℕ) → ℕ
step_by order compilations types =
    if has_row_between (index_of order compilations) || has_row_between (index_of order types)
    then 1
    else 4

-- of the indexes of a file
abbrev pub step_of : Endianness → List SectionMeaning → ℕ
step_of order sections =
    step_by order (or_nothing (first_content CuIndex sections))
    (or_nothing (first_content TuIndex sections))

-- a place is named that is inside a string
abbrev pub is_inner : Elf → (strings : List ℕ) → (at : ℕ) → Bool
is_inner file strings at =
    list_any (names file.order (step_of file.order file.sections) at) file.sections
    && begins_inside strings at

-- how many bytes the strings have that begin at such places; none where no section has units
abbrev pub inner_beside : Option SectionMeaning → Elf → (strings : List ℕ) → ℕ
inner_beside None file strings = 0
inner_beside (Some units) file strings = sizes_at strings (is_inner file strings)

abbrev pub inner_size : Elf → ℕ
inner_size file =
    inner_beside (find (is_of Info) file.sections) file
    (or_nothing (first_content Str file.sections))

-- how many times as many bytes as their file such strings may have
abbrev pub FILES : ℕ
FILES = 16

-- how many they may have in a file of so many bytes
abbrev pub most_inner : ℕ → ℕ
most_inner size = max (FILES * size) LEAST_ROOM

-- they have more
abbrev pub has_inner_strings : List ℕ → Result Elf ReadError → Bool
has_inner_strings bytes (Ok file) =
    nat_lt (most_inner (length bytes)) (inner_size file)
has_inner_strings bytes (Err e) = false
