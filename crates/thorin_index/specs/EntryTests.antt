-- What is tested of the entries of an index before it is written, the first test that fails being
-- the error.
use Rattle.std.specs.Prelude.{ℕ, ◌*◌, ◌^◌, Bool, true, false, ◌&&◌, List, [], ◌∷◌, length, Option}
use Rattle.std.specs.Prelude.{Some, None, is_some, Result, Ok, Err, codes, nat_eq, nat_lt}
use Rattle.std.specs.Prelude.{if◌then◌else◌, slice_get}
use Rattle.std.specs.Option.{option_map_or}
use Rattle.dwp_base.specs.declared.section.SectionKind.{SectionKind}
use Rattle.dwp_base.specs.declared.section.Contribution.{Contribution}
use Rattle.dwp_base.specs.Reading.{◌>>=◌}
use Rattle.dwp_base.specs.Sections.{name_of}
use Rattle.dwp_bytes.specs.declared.encoding.Encoding.{Encoding}
use Rattle.dwp_bytes.specs.declared.encoding.Format.{Format}
use Rattle.dwp_bytes.specs.declared.encoding.Format.TheVariants.{Dwarf32, Dwarf64}
use Rattle.thorin_errors.specs.Errors.{ErrorValue, NumberTooLarge, MixedInputEncodings}
use Rattle.thorin_errors.specs.Errors.{SectionOutsideFormat}
use Rattle.thorin_index.specs.declared.entry.IndexEntry.{IndexEntry}
use Rattle.thorin_index.specs.declared.index_writer.ContributionTest.{ContributionTest}
use Rattle.thorin_index.specs.declared.index_writer.ContributionTest.TheVariants.{Column, Offset}
use Rattle.thorin_index.specs.declared.index_writer.ContributionTest.TheVariants.{Size}
use Rattle.dwp_table.specs.Columns.{column_of, contribution_kinds}
use Rattle.dwp_bytes.specs.Encoding.{index_version_of}
use Rattle.thorin_index.specs.Entries.{contribution_to, offset_or_0, size_or_0}

-- tests in order, up to the first that fails
abbrev pub each : {A : Type 0} → (A → Result (Unit {0}) ErrorValue) → List A
    → Result (Unit {0}) ErrorValue
each test [] = Ok tt
each test (x ∷ xs) = test x >>= λ _. each test xs

-- a number that has to fit 32 bits
abbrev pub number_test : List ℕ → ℕ → Result (Unit {0}) ErrorValue
number_test what n = if nat_lt n (2 ^ 32) then Ok tt else Err (NumberTooLarge what n)

-- a table names its units in 32 bits, with room for half as much again
abbrev pub count_test : ℕ → Result (Unit {0}) ErrorValue
count_test n =
    if nat_lt (3 * n) (2 ^ 32) then Ok tt else Err (NumberTooLarge (codes "unit count") n)

abbrev pub same_format : Format → Format → Bool
same_format Dwarf32 Dwarf32 = true
same_format Dwarf64 Dwarf64 = true
same_format _ _ = false

abbrev pub same_encoding : Encoding → Encoding → Bool
same_encoding a b = nat_eq a.version b.version
    && (same_format a.format b.format && nat_eq a.address_size b.address_size)

abbrev pub encoding_test : Encoding → IndexEntry → Result (Unit {0}) ErrorValue
encoding_test encoding entry =
    if same_encoding entry.encoding encoding then Ok tt else Err MixedInputEncodings

-- the index of the version has a column for a contribution that is there
abbrev pub format_test : ℕ → SectionKind → Option Contribution → Result (Unit {0}) ErrorValue
format_test version kind None = Ok tt
format_test version kind (Some range) =
    if is_some (column_of version kind) then Ok tt else Err (SectionOutsideFormat (name_of kind))

abbrev pub offset_test : SectionKind → Option Contribution → Result (Unit {0}) ErrorValue
offset_test kind range = number_test (codes "contribution offset") (offset_or_0 range)

abbrev pub size_test : SectionKind → Option Contribution → Result (Unit {0}) ErrorValue
size_test kind range = number_test (codes "contribution size") (size_or_0 range)

-- the tests of a contribution by their names in the code
abbrev pub test_of : ContributionTest → SectionKind → Option Contribution
    → Result (Unit {0}) ErrorValue
test_of (Column version) = format_test version
test_of Offset = offset_test
test_of Size = size_test

-- a test of an entry's contributions to some sections
abbrev pub each_contribution : (SectionKind → Option Contribution → Result (Unit {0}) ErrorValue)
    → List SectionKind → IndexEntry → Result (Unit {0}) ErrorValue
each_contribution test kinds entry = each (λ kind. test kind (contribution_to kind entry)) kinds

-- a test of all contributions of an entry, in the order of the columns
abbrev pub contributions_test : (SectionKind → Option Contribution → Result (Unit {0}) ErrorValue)
    → IndexEntry
    → Result (Unit {0}) ErrorValue
contributions_test test entry = each_contribution test contribution_kinds entry

-- all tests, in the order in which their errors are answered
unfoldable pub tests_under : Encoding → List IndexEntry → Result (Unit {0}) ErrorValue
tests_under encoding entries = do
  _ ← count_test (length entries)
  _ ← each (encoding_test encoding) entries
  _ ← each (contributions_test (format_test (index_version_of encoding.version))) entries
  _ ← each (contributions_test offset_test) entries
  each (contributions_test size_test) entries

-- the encoding of an index is its first entry's
abbrev pub index_tests : List IndexEntry → Result (Unit {0}) ErrorValue
index_tests entries =
    option_map_or (λ first. tests_under first.encoding entries) (slice_get entries 0) (Ok tt)
