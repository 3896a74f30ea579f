-- The sections of a split DWARF object and of a package (DWARF 5, 7.3.5; the
-- GNU page DebugFissionDWP).
use Rattle.std.specs.Prelude.{ℕ, List, [], ◌∷◌, codes, Bool, ◌||◌, ◌==◌, Option, find}
use Rattle.std.specs.Str.{bytes_eq}
use Rattle.dwp_base.specs.declared.section.SectionKind.{SectionKind}
use Rattle.dwp_base.specs.declared.section.SectionKind.TheVariants.{Info, Types, Abbrev, Line, Loc}
use Rattle.dwp_base.specs.declared.section.SectionKind.TheVariants.{Loclists, Rnglists, StrOffsets}
use Rattle.dwp_base.specs.declared.section.SectionKind.TheVariants.{Macinfo, Macro, Str, CuIndex}
use Rattle.dwp_base.specs.declared.section.SectionKind.TheVariants.{TuIndex}

-- the bytes of a section's name
abbrev pub name_of : SectionKind → List ℕ
name_of Info = codes ".debug_info.dwo"
name_of Types = codes ".debug_types.dwo"
name_of Abbrev = codes ".debug_abbrev.dwo"
name_of Line = codes ".debug_line.dwo"
name_of Loc = codes ".debug_loc.dwo"
name_of Loclists = codes ".debug_loclists.dwo"
name_of Rnglists = codes ".debug_rnglists.dwo"
name_of StrOffsets = codes ".debug_str_offsets.dwo"
name_of Macinfo = codes ".debug_macinfo.dwo"
name_of Macro = codes ".debug_macro.dwo"
name_of Str = codes ".debug_str.dwo"
name_of CuIndex = codes ".debug_cu_index"
name_of TuIndex = codes ".debug_tu_index"

-- its older name where its content is compressed
abbrev pub compressed_name_of : SectionKind → List ℕ
compressed_name_of Info = codes ".zdebug_info.dwo"
compressed_name_of Types = codes ".zdebug_types.dwo"
compressed_name_of Abbrev = codes ".zdebug_abbrev.dwo"
compressed_name_of Line = codes ".zdebug_line.dwo"
compressed_name_of Loc = codes ".zdebug_loc.dwo"
compressed_name_of Loclists = codes ".zdebug_loclists.dwo"
compressed_name_of Rnglists = codes ".zdebug_rnglists.dwo"
compressed_name_of StrOffsets = codes ".zdebug_str_offsets.dwo"
compressed_name_of Macinfo = codes ".zdebug_macinfo.dwo"
compressed_name_of Macro = codes ".zdebug_macro.dwo"
compressed_name_of Str = codes ".zdebug_str.dwo"
compressed_name_of CuIndex = codes ".zdebug_cu_index"
compressed_name_of TuIndex = codes ".zdebug_tu_index"

-- its name in short
abbrev pub short_name : SectionKind → List ℕ
short_name Info = codes "info"
short_name Types = codes "types"
short_name Abbrev = codes "abbrev"
short_name Line = codes "line"
short_name Loc = codes "loc"
short_name Loclists = codes "loclists"
short_name Rnglists = codes "rnglists"
short_name StrOffsets = codes "str_offsets"
short_name Macinfo = codes "macinfo"
short_name Macro = codes "macro"
short_name Str = codes "str"
short_name CuIndex = codes "cu_index"
short_name TuIndex = codes "tu_index"

-- a name is one of the two spellings
abbrev pub is_named : List ℕ → SectionKind → Bool
is_named name kind = bytes_eq name (name_of kind) || bytes_eq name (compressed_name_of kind)

-- each of them
abbrev pub all_kinds : List SectionKind
all_kinds = Info ∷ Types ∷ Abbrev ∷ Line ∷ Loc ∷ Loclists ∷ Rnglists ∷ StrOffsets ∷ Macinfo ∷ Macro
    ∷ Str ∷ CuIndex ∷ TuIndex ∷ []

-- how many there are
abbrev pub kind_count : ℕ
kind_count = 13

-- the kind of section that a name belongs to, in either spelling
abbrev pub kind_named : List ℕ → Option SectionKind
kind_named name = find (is_named name) all_kinds

-- the kind of section that has a short name
abbrev pub kind_of_short_name : List ℕ → Option SectionKind
kind_of_short_name name = find (λ kind. bytes_eq name (short_name kind)) all_kinds

-- where a kind stands among them
abbrev pub rank_of : SectionKind → ℕ
rank_of Info = 0
rank_of Types = 1
rank_of Abbrev = 2
rank_of Line = 3
rank_of Loc = 4
rank_of Loclists = 5
rank_of Rnglists = 6
rank_of StrOffsets = 7
rank_of Macinfo = 8
rank_of Macro = 9
rank_of Str = 10
rank_of CuIndex = 11
rank_of TuIndex = 12

-- two kinds are the same
abbrev pub same_kind : SectionKind → SectionKind → Bool
same_kind a b = rank_of a == rank_of b
