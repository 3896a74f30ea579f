-- The rows of an index that was written, as they are read again (DWARF 5, 7.3.5.3).
use Rattle.std.specs.Prelude.{◌≡◌, ℕ, ◌+◌, List, length, Option, Some, None, Ok, ◌==◌}
use Rattle.std.specs.Prelude.{if◌then◌else◌, slice_get}
use Rattle.dwp_base.specs.declared.endian.Endianness.{Endianness}
use Rattle.dwp_base.specs.declared.section.SectionKind.{SectionKind}
use Rattle.dwp_base.specs.declared.section.Contribution.{Contribution}
use Rattle.dwp_table.specs.Table.{IsIndex}
use Rattle.dwp_index.specs.Index.{Index, Ranges, row_in, range_in}
use Rattle.dwp_index.specs.IndexBytes.{index_of}
use Rattle.thorin_index.specs.declared.entry.IndexEntry.{IndexEntry}
use Rattle.thorin_index.specs.Entries.{contribution_to}
use Rattle.thorin_index.specs.IndexText.{entry_ids}

-- a contribution of no bytes is absent
abbrev pub non_empty : Option Contribution → Option Contribution
non_empty None = None
non_empty (Some range) = if range.size == 0 then None else Some range

-- the row of that number has the entry's contributions
pub record HasContributions (index : Index) (number : ℕ) (entry : IndexEntry) : Type 0 where
  pub row : Ranges
  pub there : row_in index number ≡ Ok row
  pub contributions : (kind : SectionKind)
      → range_in row kind ≡ non_empty (contribution_to kind entry)

-- an index has a row for each entry, in their order, and its slots are a table of their identifiers
pub record HasEntries (version : ℕ) (entries : List IndexEntry) (index : Index) : Type 0 where
  pub version_is : index.version ≡ version
  pub count : length index.offsets ≡ length entries
  pub slots : IsIndex (entry_ids entries) index.signatures index.rows
  pub each : (r : ℕ) (entry : IndexEntry) → slice_get entries r ≡ Some entry
      → HasContributions index (r + 1) entry

-- an index that is read of the bytes has a row for each entry
abbrev pub IsReadAsEntries : Endianness → ℕ → List IndexEntry → List ℕ → Type 0
IsReadAsEntries order version entries bytes =
    (index : Index) → index_of order bytes ≡ Ok index → HasEntries version entries index
