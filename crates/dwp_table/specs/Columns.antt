-- Which number names the column of a section in an index (DWARF 5, 7.3.5.3, Table 7.1; for
-- version 2 the GNU page DebugFissionDWP).
use Rattle.std.specs.Prelude.{ℕ, Bool, false, List, [], ◌∷◌, Option, Some, None, ◌==◌}
use Rattle.std.specs.Prelude.{if◌then◌else◌}
use Rattle.std.specs.List.{find}
use Rattle.dwp_base.specs.declared.section.SectionKind.{SectionKind}
use Rattle.dwp_base.specs.declared.section.SectionKind.TheVariants.{Info, Types, Abbrev, Line, Loc}
use Rattle.dwp_base.specs.declared.section.SectionKind.TheVariants.{Loclists, Rnglists, StrOffsets}
use Rattle.dwp_base.specs.declared.section.SectionKind.TheVariants.{Macinfo, Macro, Str, CuIndex}
use Rattle.dwp_base.specs.declared.section.SectionKind.TheVariants.{TuIndex}

-- the sections that a unit may have a contribution to, in the order in which their columns are
-- written
abbrev pub contribution_kinds : List SectionKind
contribution_kinds =
    Info ∷ Types ∷ Abbrev ∷ Line ∷ Loc ∷ Loclists ∷ Rnglists ∷ StrOffsets ∷ Macinfo ∷ Macro ∷ []

-- the numbers of columns in an index of version 2 (the GNU page)
abbrev pub GNU_SECT_INFO : ℕ
GNU_SECT_INFO = 1

abbrev pub GNU_SECT_TYPES : ℕ
GNU_SECT_TYPES = 2

abbrev pub GNU_SECT_ABBREV : ℕ
GNU_SECT_ABBREV = 3

abbrev pub GNU_SECT_LINE : ℕ
GNU_SECT_LINE = 4

abbrev pub GNU_SECT_LOC : ℕ
GNU_SECT_LOC = 5

abbrev pub GNU_SECT_STR_OFFSETS : ℕ
GNU_SECT_STR_OFFSETS = 6

abbrev pub GNU_SECT_MACINFO : ℕ
GNU_SECT_MACINFO = 7

abbrev pub GNU_SECT_MACRO : ℕ
GNU_SECT_MACRO = 8

-- in an index of version 2
abbrev pub gnu_column : SectionKind → Option ℕ
gnu_column Info = Some GNU_SECT_INFO
gnu_column Types = Some GNU_SECT_TYPES
gnu_column Abbrev = Some GNU_SECT_ABBREV
gnu_column Line = Some GNU_SECT_LINE
gnu_column Loc = Some GNU_SECT_LOC
gnu_column Loclists = None
gnu_column Rnglists = None
gnu_column StrOffsets = Some GNU_SECT_STR_OFFSETS
gnu_column Macinfo = Some GNU_SECT_MACINFO
gnu_column Macro = Some GNU_SECT_MACRO
gnu_column Str = None
gnu_column CuIndex = None
gnu_column TuIndex = None

-- the numbers of columns in an index of version 5 (Table 7.1)
abbrev pub DW_SECT_INFO : ℕ
DW_SECT_INFO = 1

abbrev pub DW_SECT_ABBREV : ℕ
DW_SECT_ABBREV = 3

abbrev pub DW_SECT_LINE : ℕ
DW_SECT_LINE = 4

abbrev pub DW_SECT_LOCLISTS : ℕ
DW_SECT_LOCLISTS = 5

abbrev pub DW_SECT_STR_OFFSETS : ℕ
DW_SECT_STR_OFFSETS = 6

abbrev pub DW_SECT_MACRO : ℕ
DW_SECT_MACRO = 7

abbrev pub DW_SECT_RNGLISTS : ℕ
DW_SECT_RNGLISTS = 8

-- in an index of version 5
abbrev pub standard_column : SectionKind → Option ℕ
standard_column Info = Some DW_SECT_INFO
standard_column Types = None
standard_column Abbrev = Some DW_SECT_ABBREV
standard_column Line = Some DW_SECT_LINE
standard_column Loc = None
standard_column Loclists = Some DW_SECT_LOCLISTS
standard_column Rnglists = Some DW_SECT_RNGLISTS
standard_column StrOffsets = Some DW_SECT_STR_OFFSETS
standard_column Macinfo = None
standard_column Macro = Some DW_SECT_MACRO
standard_column Str = None
standard_column CuIndex = None
standard_column TuIndex = None

-- the number of a section's column, where the version has one
abbrev pub column_of : ℕ → SectionKind → Option ℕ
column_of version kind = if version == 5 then standard_column kind else gnu_column kind

abbrev pub is_number : Option ℕ → ℕ → Bool
is_number None n = false
is_number (Some c) n = c == n

-- the section whose column has that number, where there is one
abbrev pub kind_with : (SectionKind → Option ℕ) → ℕ → Option SectionKind
kind_with column n = find (λ kind. is_number (column kind) n) contribution_kinds

abbrev pub kind_of_column : ℕ → ℕ → Option SectionKind
kind_of_column version n =
    if version == 5 then kind_with standard_column n else kind_with gnu_column n
