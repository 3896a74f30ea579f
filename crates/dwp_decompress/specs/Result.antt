-- The file with plain sections in place of compressed ones.
use Rattle.std.specs.Prelude.{ℕ, ◌+◌, List, [], ◌∷◌, ◌++◌, length, ◌==◌, option_map, if◌then◌else◌}
use Rattle.std.specs.Prelude.{Option, Some, None, Result, Ok, map}
use Rattle.std.specs.Global.{Vec}
use Rattle.std.specs.Int.Bits.{bit_and}
use Rattle.dwp_base.specs.Reading.{◌>>=◌}
use Rattle.dwp_base.specs.declared.class.Class.{Class}
use Rattle.dwp_base.specs.declared.endian.Endianness.{Endianness}
use Rattle.dwp_elf_read.specs.declared.error.ReadError.{ReadError}
use Rattle.dwp_elf_read.specs.Elf.{Elf, SectionMeaning, elf_of}
use Rattle.dwp_decompress.specs.declared.error.DecompressError.{DecompressError}
use Rattle.dwp_decompress.specs.Answers.{reading}
use Rattle.dwp_decompress.specs.Compressed.{has_compressed}
use Rattle.dwp_decompress.specs.declared.asked.Asked.{Asked}
use Rattle.dwp_decompress.specs.Headers.{content_of}
use Rattle.dwp_decompress.specs.Sizes.{length_of}
use Rattle.dwp_decompress.specs.Names.{plain_name, added_names, names_number}

-- the flags without SHF_COMPRESSED
unfoldable pub plain_flags : ℕ → ℕ
plain_flags flags = bit_and flags 0xfffffffffffff7ff

-- a compressed section once it has that content
unfoldable pub with_plain : SectionMeaning → List ℕ → SectionMeaning
with_plain section plain = record section {
  name = option_map plain_name section.name;
  flags = plain_flags section.flags;
  size = length plain;
  content = Some plain;
}

-- the section that has the names, once names were added
unfoldable pub with_names : SectionMeaning → List ℕ → SectionMeaning
with_names section added = record section {
  size = section.size + length added;
  content = option_map (λ names. names ++ added) section.content;
}

-- a section of the result: one that isn't compressed stays, but that the names grow
unfoldable pub result_section : ℕ → List ℕ → SectionMeaning → Option (List ℕ) → SectionMeaning
result_section names added section (Some plain) = with_plain section plain
result_section names added section None =
    if section.number == names then with_names section added else section

-- its sections, in order
unfoldable pub result_sections : ℕ → List ℕ → List SectionMeaning → List (Option (List ℕ))
    → List SectionMeaning
result_sections names added [] contents = []
result_sections names added (section ∷ sections) [] = []
result_sections names added (section ∷ sections) (content ∷ contents) =
    result_section names added section content ∷ result_sections names added sections contents

-- the contents of all sections, in order, up to the first error
unfoldable pub contents_of : Asked → Class → Endianness → List SectionMeaning
    → Result (List (Option (List ℕ))) DecompressError
contents_of asked class order [] = Ok []
contents_of asked class order (section ∷ sections) = do
  content ← content_of asked class order section
  contents ← contents_of asked class order sections
  Ok (content ∷ contents)

-- the same as the code holds them
abbrev pub plain_contents : List (Option (Vec ℕ)) → List (Option (List ℕ))
plain_contents contents = map (option_map (λ (plain : Vec ℕ). plain.items)) contents

-- the file with these contents
unfoldable pub result_file : ℕ → List ℕ → Elf → List (Option (List ℕ)) → Elf
result_file names added file contents = record file {
  sections = result_sections names added file.sections contents;
}

-- what the reader is to say of a file with compressed sections once they are plain; all of their
-- headers are read before any stream
unfoldable pub plain_file : Asked → List ℕ → Elf
    → Result (Result Elf ReadError) DecompressError
plain_file asked bytes file = do
  length ← length_of asked bytes file
  contents ← contents_of asked file.class file.order file.sections
  Ok (Ok (result_file (names_number bytes file) (added_names asked file.sections) file contents))

-- what it is to say of the result; there is none where no section that is asked for is compressed
unfoldable pub decompressed_of : Asked → List ℕ
    → Result (Option (Result Elf ReadError)) DecompressError
decompressed_of asked bytes = do
  file ← reading (elf_of bytes)
  if has_compressed asked file.sections then (do
    plain ← plain_file asked bytes file
    Ok (Some plain))
      else Ok None

-- how many bytes the result has, by what the headers say
unfoldable pub plain_length_of : Asked → List ℕ → Result (Option ℕ) DecompressError
plain_length_of asked bytes = do
  file ← reading (elf_of bytes)
  if has_compressed asked file.sections then (do
    length ← length_of asked bytes file
    Ok (Some length))
      else Ok None
