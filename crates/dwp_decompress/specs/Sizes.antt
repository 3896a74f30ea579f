-- How many bytes the file has once its compressed sections are plain, by what the headers say, and
-- how many its compressed sections have before.
use Rattle.std.specs.Prelude.{ℕ, ◌+◌, ◌*◌, ◌/◌, List, length, sum_by, nat_lt, Bool, false, ◌==◌}
use Rattle.std.specs.Prelude.{◌&&◌, if◌then◌else◌, Option, Some, None, Result, Ok, Err, slice_get}
use Rattle.dwp_base.specs.Reading.{◌>>=◌}
use Rattle.dwp_elf_read.specs.declared.error.ReadError.{ReadError}
use Rattle.dwp_elf_read.specs.Layout.{entry_size}
use Rattle.dwp_elf_read.specs.Elf.{Elf, SectionMeaning}
use Rattle.dwp_decompress.specs.declared.asked.Asked.{Asked}
use Rattle.dwp_decompress.specs.declared.error.DecompressError.{DecompressError}
use Rattle.dwp_decompress.specs.Compressed.{is_compressed}
use Rattle.dwp_decompress.specs.Headers.{told_sizes}
use Rattle.dwp_decompress.specs.Names.{added_names, names_number}

-- the size of a section; 0 of none
abbrev pub size_of : Option SectionMeaning → ℕ
size_of None = 0
size_of (Some section) = section.size

-- the table of names is written again where it gets so many bytes more
abbrev pub names_size : (table added : ℕ) → ℕ
names_size table added = if added == 0 then 0 else table + added

-- the next multiple of 8
abbrev pub rounded : ℕ → ℕ
rounded n = (n + 7) / 8 * 8

-- the old file, so many plain bytes, the table of names, and the section headers
unfoldable pub length_with : Asked → List ℕ → Elf → ℕ → ℕ
length_with asked bytes file told =
    rounded (length bytes + told
    + names_size (size_of (slice_get file.sections (names_number bytes file)))
    (length (added_names asked file.sections))) + length file.sections * entry_size file.class

-- with as many plain bytes as the headers of compressed sections say
unfoldable pub length_of : Asked → List ℕ → Elf → Result ℕ DecompressError
length_of asked bytes file = do
  told ← told_sizes asked file.class file.order file.sections
  Ok (length_with asked bytes file told)

-- how many bytes a section has, if it is asked for and compressed
abbrev pub size_in : Asked → SectionMeaning → ℕ
size_in asked section = if is_compressed asked section then section.size else 0

-- how many such sections have
unfoldable pub compressed_size : Asked → List SectionMeaning → ℕ
compressed_size asked sections =
    sum_by (size_in asked) sections

-- they have more bytes than the file: so some of them overlap, which sections of a file may not
-- (ELF gABI, "Sections")
abbrev pub overlaps : Asked → List ℕ → Result Elf ReadError → Bool
overlaps asked bytes (Ok file) = nat_lt (length bytes) (compressed_size asked file.sections)
overlaps asked bytes (Err e) = false

-- the headers tell of more bytes than zlib writes at most of as many as the file has, and of as
-- many as its compressed sections: 1,032 of each (RFC 1951, 3.2.5: 258 bytes by two bits)
unfoldable pub tells_more : Asked → List ℕ → Elf → ℕ → Bool
tells_more asked bytes file told =
    nat_lt (1032 * length bytes) told
    && nat_lt (1032 * compressed_size asked file.sections) told

-- the same of what they tell together, if they can all be read
abbrev pub sum_tells_more : Asked → List ℕ → Elf → Result ℕ DecompressError → Bool
sum_tells_more asked bytes file (Ok told) = tells_more asked bytes file told
sum_tells_more asked bytes file (Err e) = false

-- a file tells of so many
abbrev pub tells_too_much : Asked → List ℕ → Result Elf ReadError → Bool
tells_too_much asked bytes (Ok file) =
    sum_tells_more asked bytes file (told_sizes asked file.class file.order file.sections)
tells_too_much asked bytes (Err e) = false
