-- Which sections of an input a package is made of, and what they hold (DWARF 5, 7.3.5; the
-- GNU page DebugFissionDWP).
use Rattle.std.specs.Prelude.{ℕ, List, [], ◌∷◌, ◌++◌, Bool, ◌&&◌, ◌||◌, if◌then◌else◌, Option, Some}
use Rattle.std.specs.Prelude.{None, Result, Ok, Err, find, is_some}
use Rattle.std.specs.List.{list_any}
use Rattle.dwp_base.specs.Reading.{◌>>=◌}
use Rattle.dwp_base.specs.declared.endian.Endianness.{Endianness}
use Rattle.dwp_base.specs.declared.section.SectionKind.{SectionKind}
use Rattle.dwp_base.specs.declared.section.SectionKind.TheVariants.{Info, Abbrev, Str, CuIndex}
use Rattle.dwp_base.specs.declared.section.SectionKind.TheVariants.{TuIndex}
use Rattle.dwp_base.specs.Sections.{name_of, all_kinds, same_kind}
use Rattle.dwp_elf_read.specs.declared.error.ReadError.{ReadError}
use Rattle.dwp_elf_read.specs.declared.error.ReadError.TheVariants.{Compressed}
use Rattle.dwp_elf_read.specs.declared.kind.FileKind.{FileKind}
use Rattle.dwp_elf_read.specs.declared.kind.FileKind.TheVariants.{Archive, Elf32, Elf64}
use Rattle.dwp_elf_read.specs.Elf as elf
use Rattle.dwp_elf_read.specs.Elf.{Elf, SectionMeaning, elf_of, is_of}
use Rattle.dwp_elf_read.specs.Identification as identification
use Rattle.dwp_index.specs.Contents as contents
use Rattle.dwp_index.specs.Contents.{is_of_kind}
use Rattle.thorin_errors.specs.Errors.{ErrorValue, ParseFileKind, InvalidInputKind, ParseObjectFile}
use Rattle.thorin_errors.specs.Errors.{DecompressData, ObjectRead}
use Rattle.thorin_errors.specs.Answers.{as_error}

-- a section that is used: its kind, its content and its address
pub record Used : Type 0 where
  pub kind : SectionKind
  pub bytes : List ℕ
  pub address : ℕ

-- the ELF file that is in a file of some kind
abbrev pub elf_in : List ℕ → FileKind → Result Elf ErrorValue
elf_in bytes Archive = Err InvalidInputKind
elf_in bytes Elf32 = as_error ParseObjectFile (elf_of bytes)
elf_in bytes Elf64 = as_error ParseObjectFile (elf_of bytes)

-- the ELF file that an input is
unfoldable pub opened : List ℕ → Result Elf ErrorValue
opened bytes = do
  kind ← as_error ParseFileKind (identification.kind_of bytes)
  elf_in bytes kind

-- a section of units of split objects is there, an empty one too
abbrev pub has_info : Elf → Bool
has_info file = list_any (is_of Info) file.sections

-- a section of a kind is there under its own name, an empty one too
abbrev pub is_present : SectionKind → Elf → Bool
is_present kind file = is_some (find (elf.is_named (name_of kind)) file.sections)

-- the kind of a section that has bytes
unfoldable pub used_kind : SectionMeaning → Option SectionKind
used_kind section = find (λ kind. is_of_kind kind section) all_kinds

-- of these kinds only the first section counts
abbrev pub counts_once : SectionKind → Bool
counts_once kind = same_kind kind Str || same_kind kind CuIndex || same_kind kind TuIndex

-- a section that can't be used is compressed, or lies outside the file
abbrev pub unusable : ReadError → ErrorValue
unusable Compressed = DecompressData Compressed
unusable error = ObjectRead error

-- the content of a section that is used
unfoldable pub used_bytes : SectionKind → SectionMeaning → Result (List ℕ) ErrorValue
used_bytes kind section = as_error unusable (contents.used_bytes kind section)

-- a kind is that of a section
abbrev pub has_kind : SectionKind → Used → Bool
has_kind kind used = same_kind used.kind kind

-- the used sections with one more, where it is used
abbrev pub with_used : List Used → SectionMeaning → Option SectionKind
    → Result (List Used) ErrorValue
with_used used section None = Ok used
with_used used section (Some kind) =
    if counts_once kind && is_some (find (has_kind kind) used) then Ok used else (do
      bytes ← used_bytes kind section
      Ok (used ++ (record { kind = kind; bytes = bytes; address = section.address }) ∷ []))

-- the used sections of a file, in order, after those before
unfoldable pub used_from : List Used → List SectionMeaning → Result (List Used) ErrorValue
used_from used [] = Ok used
used_from used (section ∷ sections) = do
  with ← with_used used section (used_kind section)
  used_from with sections

-- an input whose sections are known
pub record InputFile : Type 0 where
  pub order : Endianness
  pub sections : List Used
  pub has_strings : Bool
  pub has_abbreviations : Bool

-- the sections of an ELF file that are used
unfoldable pub input_file_of : Elf → Result InputFile ErrorValue
input_file_of file = do
  sections ← used_from [] file.sections
  Ok (record {
    order = file.order;
    sections = sections;
    has_strings = is_present Str file;
    has_abbreviations = is_present Abbrev file;
  })

-- the content of a section that may be there
abbrev pub bytes_of : Option Used → List ℕ
bytes_of None = []
bytes_of (Some used) = used.bytes

-- the content of the first section of a kind
abbrev pub first : SectionKind → List Used → List ℕ
first kind sections = bytes_of (find (has_kind kind) sections)
