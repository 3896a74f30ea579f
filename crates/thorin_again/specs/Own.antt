-- The packages that a builder takes as inputs again (DWARF 5, 7.3.5).
use Rattle.std.specs.Prelude.{Bool, false, not, ◌&&◌, ◌||◌, nat_lt, length, Option, Some, None}
use Rattle.std.specs.Prelude.{is_some}
use Rattle.dwp_base.specs.declared.section.SectionKind.{SectionKind}
use Rattle.dwp_base.specs.declared.section.SectionKind.TheVariants.{Abbrev, StrOffsets}
use Rattle.dwp_elf.specs.Contents.{content_of}
use Rattle.thorin_join.specs.Builder.{State}
use Rattle.thorin_join.specs.State.{InProgress}

-- a section of a kind has bytes
abbrev pub has_content : SectionKind → InProgress → Bool
has_content kind made = nat_lt 0 (length (content_of kind made.file.contents))

-- the sections that an input must have beside its units: abbreviations, and strings where there are
-- string offsets
abbrev pub has_sections : Option InProgress → Bool
has_sections None = false
has_sections (Some made) =
    has_content Abbrev made && (not (has_content StrOffsets made) || nat_lt 0 (length made.strings))

-- each accepted input was a plain object that added a unit, all their units have one encoding, and
-- these sections are there
abbrev pub packs_again : State → Bool
packs_again state = is_some state.own && has_sections state.begun
