-- What an input adds to the sections of a package beside its units (DWARF 5, 7.3.5; the
-- GNU page DebugFissionDWP).
use Rattle.std.specs.Prelude.{ℕ, Bool, ◌&&◌, ◌||◌, not, nat_le, List, [], ◌∷◌, ◌++◌, Result, Ok}
use Rattle.std.specs.Prelude.{Err, if◌then◌else◌}
use Rattle.std.specs.List.{list_any}
use Rattle.dwp_base.specs.declared.section.SectionKind.{SectionKind}
use Rattle.dwp_base.specs.declared.section.SectionKind.TheVariants.{StrOffsets, Str}
use Rattle.dwp_base.specs.Reading.{◌>>=◌}
use Rattle.dwp_base.specs.Sections.{name_of, same_kind}
use Rattle.dwp_elf.specs.Growing.{Contents, with_bytes}
use Rattle.thorin_errors.specs.Errors.{ErrorValue, MissingRequiredSection, RepeatedSection}
use Rattle.thorin_errors.specs.Errors.{SectionOutsideFormat}
use Rattle.thorin_input.specs.Format.{is_in_format, is_copied}
use Rattle.thorin_input.specs.Indexes.{Source, is_package}
use Rattle.thorin_input.specs.InputStrings.{rewritten}
use Rattle.thorin_input.specs.Used.{Used}

-- the parts so far, and the distinct strings so far
abbrev pub Parts : Type 0
Parts = Contents × List (List ℕ)

-- a part of a kind is there
abbrev pub has_part : SectionKind → Contents → Bool
has_part kind parts = list_any (λ part. same_kind part.0 kind) parts

-- an input may have one section of the kind alone: a package of each kind, an object of DWARF 5 of
-- string offsets
abbrev pub stands_once : Source → SectionKind → Bool
stands_once source kind =
    is_package source.indexes || (nat_le 5 source.encoding.version && same_kind kind StrOffsets)

-- the parts with string offsets
unfoldable pub with_offsets : Source → Parts → List ℕ → Result Parts ErrorValue
with_offsets source before bytes =
    if not source.object.has_strings then Err (MissingRequiredSection (name_of Str))
    else (rewritten source bytes before.1 >>= λ written.
    Ok (before.0 ++ (StrOffsets, written.0) ∷ [], written.1))

-- the parts with what a section adds
unfoldable pub with_part : Source → Parts → Used → Result Parts ErrorValue
with_part source before section =
    if stands_once source section.kind && has_part section.kind before.0
    then Err (RepeatedSection (name_of section.kind))
    else (if not (is_in_format source.encoding section.kind)
    then Err (SectionOutsideFormat (name_of section.kind))
    else (if same_kind section.kind StrOffsets then with_offsets source before section.bytes
    else (if is_copied section.kind
    then Ok (before.0 ++ (section.kind, section.bytes) ∷ [], before.1)
    else Ok before)))

-- the same for each of these sections, in file order
unfoldable pub with_each_part : Source → Parts → List Used → Result Parts ErrorValue
with_each_part source before [] = Ok before
with_each_part source before (section ∷ sections) = do
  next ← with_part source before section
  with_each_part source next sections

-- the parts of an input, and the distinct strings after those before
abbrev pub parts_of : Source → List (List ℕ) → Result Parts ErrorValue
parts_of source strings = with_each_part source ([], strings) source.object.sections

-- contents once each of these parts was added to its section, in order
unfoldable pub with_parts : Contents → Contents → Contents
with_parts [] contents = contents
with_parts (part ∷ parts) contents = with_parts parts (with_bytes part.0 part.1 contents)

-- what parts add to the section of a kind, joined in their order
abbrev pub joined_parts : SectionKind → Contents → List ℕ
joined_parts kind [] = []
joined_parts kind (part ∷ parts) =
    if same_kind part.0 kind then part.1 ++ joined_parts kind parts else joined_parts kind parts
