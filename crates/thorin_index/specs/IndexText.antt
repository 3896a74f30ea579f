-- The bytes of an index (DWARF 5, 7.3.5.3; the GNU page DebugFissionDWP).
use Rattle.std.specs.Prelude.{◌≡◌, ℕ, ◌^◌, ◌<◌, Bool, List, [], ◌∷◌, ◌++◌, length, map, filter}
use Rattle.std.specs.Prelude.{Option, is_some, unwrap_or, ◌==◌, if◌then◌else◌, slice_get}
use Rattle.std.specs.Prelude.{MatchOption}
use Rattle.std.specs.List.{flat_map, list_any}
use Rattle.dwp_base.specs.declared.endian.Endianness.{Endianness}
use Rattle.dwp_base.specs.declared.section.SectionKind.{SectionKind}
use Rattle.dwp_base.specs.declared.section.Contribution.{Contribution}
use Rattle.dwp_base.specs.Numbers.{number_bytes}
use Rattle.dwp_table.specs.Objects.{identifier_of}
use Rattle.dwp_table.specs.Table.{IsHashTable, HasSlots, signature_of}
use Rattle.thorin_index.specs.declared.entry.IndexEntry.{IndexEntry}
use Rattle.thorin_index.specs.declared.index_writer.Measure.{Measure}
use Rattle.thorin_index.specs.declared.index_writer.Measure.TheVariants.{Offset, Size}
use Rattle.dwp_table.specs.Columns.{column_of, contribution_kinds}
use Rattle.dwp_bytes.specs.Encoding.{index_version_of}
use Rattle.thorin_index.specs.Entries.{contribution_to, offset_or_0, size_or_0}

-- numbers of four bytes, one after the other
abbrev pub numbers_bytes : Endianness → List ℕ → List ℕ
numbers_bytes order numbers = flat_map (number_bytes order 4) numbers

-- the version in front: 5 in two bytes and two bytes of padding, or 2 in four bytes
abbrev pub version_bytes : Endianness → ℕ → List ℕ
version_bytes order version =
    if version == 5 then number_bytes order 2 5 ++ (0 ∷ 0 ∷ []) else number_bytes order 4 2

-- some entry has a contribution to the section
abbrev pub is_used : List IndexEntry → SectionKind → Bool
is_used entries kind = list_any (λ entry. is_some (contribution_to kind entry)) entries

-- the sections that some entry has a contribution to, in the order of the columns
abbrev pub used_sections : List IndexEntry → List SectionKind
used_sections entries = filter (is_used entries) contribution_kinds

-- the numbers of their columns
abbrev pub column_numbers : ℕ → List SectionKind → List ℕ
column_numbers version kinds = map (λ kind. unwrap_or (column_of version kind) 0) kinds

-- the number of a contribution by its name in the code
abbrev pub measure_of : Measure → Option Contribution → ℕ
measure_of Offset = offset_or_0
measure_of Size = size_or_0

-- the entry's row in the table of offsets, or of sizes
abbrev pub row_numbers : (Option Contribution → ℕ) → List SectionKind → IndexEntry → List ℕ
row_numbers measure kinds entry = map (λ kind. measure (contribution_to kind entry)) kinds

abbrev pub rows_bytes : Endianness → (Option Contribution → ℕ) → List SectionKind
    → List IndexEntry → List ℕ
rows_bytes order measure kinds entries =
    flat_map (λ entry. numbers_bytes order (row_numbers measure kinds entry)) entries

-- the identifiers beside the row numbers, 0 in an unused slot
abbrev pub signatures_bytes : Endianness → List ℕ → List ℕ → List ℕ
signatures_bytes order ids rows = flat_map (λ row. number_bytes order 8 (signature_of ids row)) rows

-- the numbers by which the entries are looked up
abbrev pub entry_ids : List IndexEntry → List ℕ
entry_ids entries = map (λ entry. identifier_of entry.id) entries

-- header, slots, columns, offsets, sizes: of an index version, of entries with contributions to
-- these sections, and with the row numbers of the slots
unfoldable pub index_bytes : Endianness → ℕ → List SectionKind → List IndexEntry → List ℕ → List ℕ
index_bytes order version kinds entries rows =
    version_bytes order version
    ++ numbers_bytes order (length kinds ∷ length entries ∷ length rows ∷ [])
    ++ signatures_bytes order (entry_ids entries) rows
    ++ numbers_bytes order rows
    ++ numbers_bytes order (column_numbers version kinds)
    ++ rows_bytes order offset_or_0 kinds entries
    ++ rows_bytes order size_or_0 kinds entries

-- the bytes are an index of the entries in their order, whose slots are a table of their
-- identifiers
pub record IsIndexText (order : Endianness) (version : ℕ) (entries : List IndexEntry)
    (bytes : List ℕ) : Type 0 where
  pub rows : List ℕ
  pub table : IsHashTable (entry_ids entries) rows
  pub slots : HasSlots (length entries) (length rows)
  pub text : bytes ≡ index_bytes order version (used_sections entries) entries rows

-- no entries have no index
abbrev pub IsIndexOf : Endianness → List IndexEntry → List ℕ → Type 0
IsIndexOf order entries bytes = MatchOption (slice_get entries 0) (bytes ≡ []) (λ first.
    IsIndexText order (index_version_of first.encoding.version) entries bytes)

-- each number of the entry fits its four bytes
abbrev pub FitsRow : (Option Contribution → ℕ) → IndexEntry → Type 0
FitsRow measure entry = (kind : SectionKind) → measure (contribution_to kind entry) < 2 ^ 32
