-- What a unit's entry has for each section (DWARF 5, 7.3.5.3; the GNU page DebugFissionDWP).
use Rattle.std.specs.Prelude.{ℕ, Option, Some, None}
use Rattle.dwp_base.specs.declared.section.SectionKind.{SectionKind}
use Rattle.dwp_base.specs.declared.section.SectionKind.TheVariants.{Info, Types, Abbrev, Line, Loc}
use Rattle.dwp_base.specs.declared.section.SectionKind.TheVariants.{Loclists, Rnglists, StrOffsets}
use Rattle.dwp_base.specs.declared.section.SectionKind.TheVariants.{Macinfo, Macro, Str, CuIndex}
use Rattle.dwp_base.specs.declared.section.SectionKind.TheVariants.{TuIndex}
use Rattle.dwp_base.specs.declared.section.Contribution.{Contribution}
use Rattle.dwp_bytes.specs.declared.encoding.Encoding.{Encoding}
use Rattle.dwp_table.specs.declared.object.DwarfObject.{DwarfObject}
use Rattle.thorin_index.specs.declared.entry.IndexEntry.{IndexEntry}

-- the entry's contribution to a section
abbrev pub contribution_to : SectionKind → IndexEntry → Option Contribution
contribution_to Info entry = entry.debug_info
contribution_to Types entry = entry.debug_types
contribution_to Abbrev entry = entry.debug_abbrev
contribution_to Line entry = entry.debug_line
contribution_to Loc entry = entry.debug_loc
contribution_to Loclists entry = entry.debug_loclists
contribution_to Rnglists entry = entry.debug_rnglists
contribution_to StrOffsets entry = entry.debug_str_offsets
contribution_to Macinfo entry = entry.debug_macinfo
contribution_to Macro entry = entry.debug_macro
contribution_to Str entry = None
contribution_to CuIndex entry = None
contribution_to TuIndex entry = None

-- the entry of a unit whose contribution to each section that has a column is as given
abbrev pub entry_by : Encoding → DwarfObject → (SectionKind → Option Contribution) → IndexEntry
entry_by encoding id range = record {
  encoding = encoding;
  id = id;
  debug_info = range Info;
  debug_types = range Types;
  debug_abbrev = range Abbrev;
  debug_line = range Line;
  debug_loc = range Loc;
  debug_loclists = range Loclists;
  debug_rnglists = range Rnglists;
  debug_str_offsets = range StrOffsets;
  debug_macinfo = range Macinfo;
  debug_macro = range Macro;
}

-- where a contribution begins and how much it has; an absent one has 0 for both
abbrev pub offset_or_0 : Option Contribution → ℕ
offset_or_0 None = 0
offset_or_0 (Some c) = c.offset.0

abbrev pub size_or_0 : Option Contribution → ℕ
size_or_0 None = 0
size_or_0 (Some c) = c.size
