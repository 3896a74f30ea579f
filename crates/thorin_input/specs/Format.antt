-- Which sections packages of a version have, which of them are taken as they are, and which units
-- share (DWARF 5, 7.3.5; the GNU page DebugFissionDWP).
use Rattle.std.specs.Prelude.{Bool, ◌&&◌, ◌||◌, not, is_some, [], ◌∷◌}
use Rattle.std.specs.List.{list_any}
use Rattle.dwp_base.specs.Sections.{same_kind}
use Rattle.dwp_base.specs.declared.section.SectionKind.{SectionKind}
use Rattle.dwp_base.specs.declared.section.SectionKind.TheVariants.{Info, Types, StrOffsets}
use Rattle.dwp_bytes.specs.Encoding.{index_version_of}
use Rattle.dwp_bytes.specs.declared.encoding.Encoding.{Encoding}
use Rattle.dwp_table.specs.Columns.{contribution_kinds, column_of}

-- a section that units have contributions to
abbrev pub is_of_units : SectionKind → Bool
is_of_units kind = list_any (same_kind kind) contribution_kinds

-- packages of an encoding's version have the section: one that units have contributions to where an
-- index of that version has a column for it, any other in each version
abbrev pub is_in_format : Encoding → SectionKind → Bool
is_in_format encoding kind =
    not (is_of_units kind) || is_some (column_of (index_version_of encoding.version) kind)

-- a section that goes to the package whole and as it is: one that units have contributions to, but
-- neither one that they stand in nor string offsets, which are rewritten
abbrev pub is_copied : SectionKind → Bool
is_copied kind =
    is_of_units kind && not (list_any (same_kind kind) (Info ∷ Types ∷ StrOffsets ∷ []))

-- a section that units share: all that they have contributions to but those that they stand in
abbrev pub is_shared : SectionKind → Bool
is_shared kind = is_copied kind || same_kind kind StrOffsets
