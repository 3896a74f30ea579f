-- Rows of inputs that were taken: what they have contributions to, and whose encoding they have
-- (DWARF 5, 7.3.5.3 and 7.5.1; the GNU page DebugFissionDWP).
use Rattle.std.specs.Prelude.{◌≡◌, ℕ, true, List, Option, Some, Ok, is_some, slice_get}
use Rattle.dwp_base.specs.declared.section.SectionKind.{SectionKind}
use Rattle.dwp_bytes.specs.Encoding.{index_version_of}
use Rattle.dwp_table.specs.Columns.{column_of}
use Rattle.thorin_index.specs.Entries.{contribution_to}
use Rattle.thorin_index.specs.declared.entry.IndexEntry.{IndexEntry}
use Rattle.thorin_again.specs.Again.{input_encoding}
use Rattle.thorin_join.specs.StandApart.{EachRow, rows_begun}
use Rattle.thorin_join.specs.State.{InProgress}

-- an index of a row's version has a column for each section that the row has a contribution to
abbrev pub IsInFormat : IndexEntry → Type 0
IsInFormat row = (kind : SectionKind) → is_some (contribution_to kind row) ≡ true
    → is_some (column_of (index_version_of row.encoding.version) kind) ≡ true

-- so it is with each row of a package, where one was begun
abbrev pub AreInFormat : Option InProgress → Type 0
AreInFormat begun = EachRow IsInFormat (rows_begun begun)

-- bytes are one of some inputs
abbrev pub IsOneOf : List (List ℕ) → List ℕ → Type 0
IsOneOf inputs bytes = (place : ℕ) × (slice_get inputs place ≡ Some bytes)

-- a row has the encoding of one of some inputs
abbrev pub HasEncodingOfOne : List (List ℕ) → IndexEntry → Type 0
HasEncodingOfOne inputs row = (bytes : List ℕ) × IsOneOf inputs bytes
    × (input_encoding bytes ≡ Ok row.encoding)

-- so has each row of a package, where one was begun
abbrev pub HaveEncodingsOf : List (List ℕ) → Option InProgress → Type 0
HaveEncodingsOf inputs begun = EachRow (HasEncodingOfOne inputs) (rows_begun begun)
