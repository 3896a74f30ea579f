-- The strings of a package: those that the string offsets of its inputs name, each once, in order
-- of first use (DWARF 5, 7.26).
use Rattle.std.specs.Prelude.{◌≡◌, ◌≢◌, AllPairs, ℕ, List, [], ◌∷◌, ◌++◌, Option, Some, None}
use Rattle.std.specs.Prelude.{Result, Ok, if◌then◌else◌}
use Rattle.std.specs.Result.{result_unwrap_or}
use Rattle.dwp_base.specs.Reading.{◌>>=◌}
use Rattle.dwp_base.specs.declared.section.Contribution.{Contribution}
use Rattle.dwp_base.specs.declared.section.SectionKind.TheVariants.{Str, StrOffsets}
use Rattle.dwp_base.specs.Sections.{same_kind}
use Rattle.dwp_elf_read.specs.Elf.{Elf}
use Rattle.thorin_errors.specs.Errors.{ErrorValue}
use Rattle.thorin_package_input.specs.PackagedOffsets.{offset_ranges}
use Rattle.thorin_package_input.specs.PackagedReading.{range_bytes}
use Rattle.dwp_strings.specs.Strings.{with_string}
use Rattle.thorin_input.specs.Encodings.{encoding_of}
use Rattle.thorin_input.specs.Indexes.{Source, is_package, indexes_of}
use Rattle.thorin_join.specs.State.{InProgress}
use Rattle.thorin_join.specs.Strings.{strings_of}
use Rattle.thorin_input.specs.Used.{Used, opened, has_info, input_file_of, first}

-- distinct strings once these are used, in order: a new one goes last
abbrev pub with_strings : List (List ℕ) → List (List ℕ) → List (List ℕ)
with_strings strings [] = strings
with_strings strings (string ∷ used) = with_strings (with_string strings string) used

-- the strings that a range of string offsets names, in order
abbrev pub named_by : Source → List ℕ → List (List ℕ)
named_by source range = result_unwrap_or
    (strings_of source.object.order source.encoding (first Str source.object.sections) range) []

-- the same for each of these ranges of a section
abbrev pub named_by_ranges : Source → List ℕ → List Contribution → List (List ℕ)
named_by_ranges source bytes [] = []
named_by_ranges source bytes (range ∷ ranges) =
    named_by source (range_bytes bytes range) ++ named_by_ranges source bytes ranges

-- the strings that a section of string offsets names: of a package range by range
abbrev pub named_by_section : Source → List ℕ → List (List ℕ)
named_by_section source bytes =
    if is_package source.indexes
    then named_by_ranges source bytes
    (offset_ranges source.indexes.compilations source.indexes.types)
    else named_by source bytes

-- those that an input names, section by section in file order
abbrev pub named_in : Source → List Used → List (List ℕ)
named_in source [] = []
named_in source (section ∷ sections) =
    (if same_kind section.kind StrOffsets then named_by_section source section.bytes else [])
    ++ named_in source sections

-- the strings of a package, where an input has begun one
abbrev pub strings_begun : Option InProgress → List (List ℕ)
strings_begun None = []
strings_begun (Some made) = made.strings

-- the strings that an input's bytes name, in order; without an info section none
unfoldable pub named_in_file : Elf → Result (List (List ℕ)) ErrorValue
named_in_file file = do
  object ← input_file_of file
  encoding ← encoding_of object
  indexes ← indexes_of object encoding
  Ok (named_in (record { object = object; encoding = encoding; indexes = indexes }) object.sections)

unfoldable pub used_by : List ℕ → Result (List (List ℕ)) ErrorValue
used_by bytes = do
  file ← opened bytes
  if has_info file then named_in_file file else Ok []

-- the strings before come first, and those that an input names follow, each once, in order of first
-- use
pub record UsesStrings (bytes : List ℕ) (before : Option InProgress)
    (now : InProgress) : Type 0 where
  pub used : List (List ℕ)
  pub named : used_by bytes ≡ Ok used
  pub strings : now.strings ≡ with_strings (strings_begun before) used
  pub distinct : AllPairs (λ s t. s ≢ t) now.strings
