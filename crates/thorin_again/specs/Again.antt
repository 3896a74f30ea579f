-- A written package that is taken as an input: it means the units that were joined in it (DWARF 5,
-- 7.3.5).
use Rattle.std.specs.Prelude.{◌≡◌, ℕ, List, map, Option, Some, Result, Ok, All, IsPermutation}
use Rattle.dwp_base.specs.Reading.{◌>>=◌}
use Rattle.dwp_bytes.specs.declared.encoding.Encoding.{Encoding}
use Rattle.dwp_elf.specs.Contents.{KindsDiffer}
use Rattle.dwp_elf.specs.FileText.{Object as File, file_text}
use Rattle.dwp_elf.specs.Written.{written_elf}
use Rattle.dwp_elf_read.specs.Elf.{elf_of}
use Rattle.dwp_table.specs.declared.object.DwarfObject.{DwarfObject}
use Rattle.thorin_errors.specs.Errors.{ErrorValue}
use Rattle.thorin_join.specs.Builder.{State, taken}
use Rattle.thorin_input.specs.Encodings.{encoding_of}
use Rattle.thorin_join.specs.Meaning.{Meaning, Members, input_meaning}
use Rattle.thorin_input.specs.Used.{opened, input_file_of}

-- the encoding of an input is that of the first unit of its first info section
unfoldable pub input_encoding : List ℕ → Result Encoding ErrorValue
input_encoding bytes = do
  file ← opened bytes
  object ← input_file_of file
  encoding_of object

-- each unit has the encoding of these bytes as an input
abbrev pub HaveEncodingOf : List ℕ → Members → Type 0
HaveEncodingOf bytes units = All (λ unit. input_encoding bytes ≡ Ok unit.1.encoding) units

-- units as an input has them, each with all that belongs to it
abbrev pub all_meant : Members → List (DwarfObject × Option Meaning)
all_meant units = map {B = DwarfObject × Option Meaning} (λ unit. (unit.0, Some unit.1)) units

-- bytes that a builder takes mean just these units, each once, in some order
abbrev pub MeansWhereTaken : Members → List ℕ → Type 0
MeansWhereTaken units bytes = (before after : State) → taken bytes before ≡ Ok after
    → (meant : List (DwarfObject × Option Meaning)) → input_meaning bytes ≡ Ok meant
    → IsPermutation (all_meant units) meant

-- so does the file of these contents, once it is written and read back as an ELF file, as `write`
-- says, if each unit has the encoding of its first
abbrev pub MeansOnceWritten : Members → File → Type 0
MeansOnceWritten units file =
    KindsDiffer file.contents → elf_of (file_text file) ≡ Ok (written_elf file)
    → HaveEncodingOf (file_text file) units → MeansWhereTaken units (file_text file)
