-- A written package as an input (DWARF 5, 7.3.5).
use Rattle.std.specs.Prelude.{◌≡◌, ℕ, ◌<◌, true, ◌==◌, List, [], ◌∷◌, length, Option, Ok}
use Rattle.std.specs.Prelude.{if◌then◌else◌}
use Rattle.dwp_base.specs.declared.section.SectionKind.{SectionKind}
use Rattle.dwp_base.specs.declared.section.SectionKind.TheVariants.{Info, Abbrev, StrOffsets, Str}
use Rattle.dwp_bytes.specs.declared.encoding.Encoding.{Encoding}
use Rattle.dwp_elf.specs.Contents.{KindsDiffer, content_of}
use Rattle.dwp_elf.specs.FileText.{Object as File, file_text}
use Rattle.dwp_elf.specs.Written.{written_elf}
use Rattle.dwp_elf_read.specs.Elf.{elf_of}
use Rattle.thorin_join.specs.Builder.{State, finish_test, IsFinishedState, with_source_or_new}
use Rattle.thorin_join.specs.Builder.{with_input}
use Rattle.thorin_input.specs.Encodings.{encoding_of}
use Rattle.dwp_elf.specs.Growing.{Contents}
use Rattle.thorin_input.specs.Indexes.{Indexes, Source, is_package, indexes_of}
use Rattle.thorin_again.specs.OwnUnits.{AllOf}
use Rattle.thorin_input.specs.Format.{is_in_format}
use Rattle.thorin_input.specs.InputStrings.{rewritten}
use Rattle.thorin_input.specs.Parts.{Parts, parts_of}
use Rattle.thorin_join.specs.Represents.{IsSoundBegun, units_in}
use Rattle.thorin_join.specs.State.{InProgress}
use Rattle.thorin_input.specs.Used.{Used, InputFile, is_present}

-- the sections of a written file that an input is made of: those that have bytes, in order
abbrev pub written_used : Contents → List Used
written_used [] = []
written_used (c ∷ cs) = if length c.1 == 0 then written_used cs
    else record { kind = c.0; bytes = c.1; address = 0 } ∷ written_used cs

-- a written file as an input
abbrev pub written_object : File → InputFile
written_object file = record {
  order = file.order;
  sections = written_used file.contents;
  has_strings = is_present Str (written_elf file);
  has_abbreviations = is_present Abbrev (written_elf file);
}

-- a written package as an input, of this encoding and with these indexes
abbrev pub own_source : File → Encoding → Indexes → Source
own_source file encoding indexes = record {
  object = written_object file;
  encoding = encoding;
  indexes = indexes;
}

-- a file is that of a builder's finished package, all of whose units come from inputs of this
-- encoding, and the first unit of info has it
pub record IsOwn (state : State) (encoding : Encoding) (file : File) : Type 0 where
  pub sound : IsSoundBegun state.begun
  pub tested : finish_test state ≡ Ok tt
  pub finished : IsFinishedState state file
  pub kinds : KindsDiffer file.contents
  pub read_back : elf_of (file_text file) ≡ Ok (written_elf file)
  pub some : 0 < length (units_in state)
  pub all : AllOf encoding (units_in state)
  pub info : 0 < length (content_of Info file.contents)
  pub first : encoding_of (written_object file) ≡ Ok encoding

-- a package of that byte order, or none, takes its bytes up to its parts, with the indexes that
-- were written
pub record TakesUpToParts (file : File) (encoding : Encoding)
    (before : Option InProgress) : Type 0 where
  pub indexes : Indexes
  pub read : indexes_of (written_object file) encoding ≡ Ok indexes
  pub finished : is_package indexes ≡ true
  pub is : with_input (file_text file) before ≡ with_source_or_new (written_elf file)
      (own_source file encoding indexes) before

-- contents are in the format of an encoding, and where there are string offsets there are strings,
-- among which they can be rewritten
pub record CanTake (source : Source) (contents : Contents) (strings : List (List ℕ)) : Type 0 where
  pub finished : is_package source.indexes ≡ true
  pub format : (kind : SectionKind) → 0 < length (content_of kind contents)
      → is_in_format source.encoding kind ≡ true
  pub has : 0 < length (content_of StrOffsets contents) → source.object.has_strings ≡ true
  pub written : 0 < length (content_of StrOffsets contents) → (w : List ℕ × List (List ℕ))
      × (rewritten source (content_of StrOffsets contents) strings ≡ Ok w)

-- the parts of an input are taken
abbrev pub TakesParts : Source → List (List ℕ) → Type 0
TakesParts source strings = (parts : Parts) × (parts_of source strings ≡ Ok parts)
