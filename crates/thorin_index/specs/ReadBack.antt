-- An index that was written, as it is read again (DWARF 5, 7.3.5.3).
use Rattle.std.specs.Prelude.{ℕ, ◌<◌, ◌^◌, List, map, slice_index}
use Rattle.dwp_base.specs.declared.section.SectionKind.{SectionKind}
use Rattle.dwp_table.specs.Table.{signature_of}
use Rattle.dwp_index.specs.Index.{Index}
use Rattle.thorin_index.specs.declared.entry.IndexEntry.{IndexEntry}
use Rattle.thorin_index.specs.Entries.{offset_or_0, size_or_0}
use Rattle.thorin_index.specs.IndexText.{column_numbers, entry_ids, row_numbers}

-- identifiers have 64 bits
abbrev pub HaveShortIds : List IndexEntry → Type 0
HaveShortIds entries = (r : ℕ) → slice_index (entry_ids entries) r < 2 ^ 64

-- what an index of the entries says, with these row numbers in its slots
abbrev pub index_with : ℕ → List SectionKind → List IndexEntry → List ℕ → Index
index_with version kinds entries rows = record {
  version = version;
  columns = column_numbers version kinds;
  signatures = map (signature_of (entry_ids entries)) rows;
  rows = rows;
  offsets = map (row_numbers offset_or_0 kinds) entries;
  sizes = map (row_numbers size_or_0 kinds) entries;
}
