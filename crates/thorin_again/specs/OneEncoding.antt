-- Inputs whose units all have one encoding, and packages in which each unit has its strings
-- (DWARF 5, 7.5.1 and 7.26).
use Rattle.std.specs.Prelude.{◌≡◌, ℕ, true, List, slice_get, Ok, MatchOption}
use Rattle.std.specs.List.{list_all}
use Rattle.std.specs.Map.{lookup}
use Rattle.dwp_base.specs.declared.section.SectionKind.TheVariants.{StrOffsets, Str}
use Rattle.dwp_bytes.specs.StringOffsets.{string_in}
use Rattle.dwp_bytes.specs.declared.encoding.Encoding.{Encoding}
use Rattle.dwp_elf.specs.Contents.{KindsDiffer}
use Rattle.dwp_elf.specs.FileText.{Object as File, file_text}
use Rattle.dwp_elf.specs.Written.{written_elf}
use Rattle.dwp_elf_read.specs.Elf.{Elf, elf_of}
use Rattle.dwp_index.specs.Package.{Package, package_of, row_bytes}
use Rattle.dwp_table.specs.declared.object.DwarfObject.{DwarfObject}
use Rattle.thorin_input.specs.Encodings.{encoding_of, section_has}
use Rattle.thorin_input.specs.Names.{same_name}
use Rattle.thorin_input.specs.Used.{InputFile, opened, input_file_of}
use Rattle.thorin_again.specs.Again.{input_encoding, HaveEncodingOf}
use Rattle.thorin_join.specs.Join.{GivesUnit, GivesNone, look_limit}
use Rattle.thorin_join.specs.Meaning.{Meaning, Members}
use Rattle.dwp_index.specs.Contents.{content}

-- each unit of an input, passed over or not, has the encoding of the first unit of its first info
-- section
abbrev pub IsOfOneEncoding : List ℕ → Type 0
IsOfOneEncoding bytes = (file : Elf) (object : InputFile) (encoding : Encoding)
    → opened bytes ≡ Ok file → input_file_of file ≡ Ok object → encoding_of object ≡ Ok encoding
    → list_all (section_has encoding object.order) object.sections ≡ true

-- this is the encoding of each
abbrev pub IsOfEncoding : Encoding → List ℕ → Type 0
IsOfEncoding encoding bytes = IsOfOneEncoding bytes
    × ((first : Encoding) → input_encoding bytes ≡ Ok first → first ≡ encoding)

-- a look-up gives that unit, with all its strings
pub record GivesWhole (pack : Package) (name : DwarfObject) (most : ℕ)
    (unit : Meaning) : Type 0 where
  pub gives : GivesUnit pack name most unit
  pub encoding : gives.found.encoding ≡ unit.encoding
  pub string : (i : ℕ) → string_in gives.found.order gives.found.encoding
      (content gives.found.contents Str)
      (row_bytes gives.found.contents gives.found.row StrOffsets) i ≡ Ok (slice_get unit.strings i)

-- bytes are a package in which looking up any name gives just the unit of that name among these,
-- with all its strings, or none
pub record AnswersAs (units : Members) (bytes : List ℕ) : Type 0 where
  pub pack : Package
  pub parsed : package_of bytes ≡ Ok pack
  pub finds : (name : DwarfObject) → MatchOption (lookup (same_name name) units)
      (GivesNone pack name (look_limit units name)) (GivesWhole pack name (look_limit units name))

-- the file of these contents is such a package, once it is written and read back as an ELF file, as
-- `write` says
abbrev pub AnswersOnceWritten : Members → File → Type 0
AnswersOnceWritten units file = KindsDiffer file.contents
    → elf_of (file_text file) ≡ Ok (written_elf file) → AnswersAs units (file_text file)

-- and as an input it has the encoding of each of them
abbrev pub HaveEncodingOnceWritten : Members → File → Type 0
HaveEncodingOnceWritten units file = KindsDiffer file.contents
    → elf_of (file_text file) ≡ Ok (written_elf file) → HaveEncodingOf (file_text file) units
