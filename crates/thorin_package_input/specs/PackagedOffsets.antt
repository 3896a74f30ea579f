-- The string offsets of a finished package: each range of a row has a header of its own, if any
-- (DWARF 5, 7.3.5, 7.26).
use Rattle.std.specs.Prelude.{ℕ, ◌+◌, ◌-◌, ◌%◌, Bool, ◌&&◌, ◌==◌, nat_le, nat_lt, not}
use Rattle.std.specs.Prelude.{if◌then◌else◌, List, [], ◌∷◌, ◌++◌, length, drop, slice_range, Option}
use Rattle.std.specs.Prelude.{Some, None, Result, Ok, Err}
use Rattle.std.specs.Ordering.{nat_cmp, ordering_then}
use Rattle.std.specs.declared.cmp.Ordering.{Ordering}
use Rattle.std.specs.BTreeSet.{insert_key}
use Rattle.dwp_base.specs.Reading.{◌>>=◌}
use Rattle.dwp_base.specs.declared.endian.Endianness.{Endianness}
use Rattle.dwp_base.specs.declared.section.SectionKind.TheVariants.{StrOffsets}
use Rattle.dwp_base.specs.declared.section.Contribution.{Contribution}
use Rattle.dwp_bytes.specs.declared.encoding.Encoding.{Encoding}
use Rattle.dwp_bytes.specs.Encoding.{offset_size}
use Rattle.dwp_bytes.specs.StringOffsets.{header_size}
use Rattle.dwp_index.specs.Index.{Index}
use Rattle.thorin_errors.specs.Errors.{ErrorValue, BadStringOffsets, OverlappingStringOffsets}
use Rattle.thorin_strings.specs.StringOffsets.{remapped}
use Rattle.thorin_package_input.specs.RowPlaces.{ranges_of}

-- by place, then by size
abbrev pub place_cmp : Contribution → Contribution → Ordering
place_cmp a b = ordering_then (nat_cmp a.offset.0 b.offset.0) (nat_cmp a.size b.size)

-- ranges in order, with those that some rows have
abbrev pub with_ranges : List (Option Contribution) → List Contribution → List Contribution
with_ranges [] ranges = ranges
with_ranges (None ∷ rows) ranges = with_ranges rows ranges
with_ranges (Some range ∷ rows) ranges = with_ranges rows (insert_key place_cmp ranges range)

-- the same, with those of an index's rows
abbrev pub with_rows : Option Index → List Contribution → List Contribution
with_rows None ranges = ranges
with_rows (Some index) ranges = with_ranges (ranges_of index StrOffsets) ranges

-- the ranges of string offsets that rows of both indexes have, in order of place, then of size,
-- none twice
unfoldable pub offset_ranges : Option Index → Option Index → List Contribution
offset_ranges compilations types = with_rows types (with_rows compilations [])

-- a range lies inside a section of so many bytes, isn't shorter than its header, and has whole
-- entries
abbrev pub is_whole_range : Encoding → ℕ → Contribution → Bool
is_whole_range encoding size range =
    nat_le (range.offset.0 + range.size) size && nat_le (header_size encoding) range.size
    && ((range.size - header_size encoding) % offset_size encoding.format == 0)

-- range by range: each is whole, and begins at the end of the one before it or behind
unfoldable pub ranges_test : Encoding → (size last_end : ℕ) → List Contribution
    → Result (Unit {0}) ErrorValue
ranges_test encoding size last_end [] = Ok tt
ranges_test encoding size last_end (r ∷ rs) =
    if not (is_whole_range encoding size r)
    then Err (BadStringOffsets r.offset.0)
    else (if nat_lt r.offset.0 last_end
    then Err (OverlappingStringOffsets r.offset.0)
    else ranges_test encoding size (r.offset.0 + r.size) rs)

-- the section from a place on, with these ranges rewritten in turn and the bytes between them as
-- they are, and the distinct strings after it
unfoldable pub rewritten_from : Endianness → Encoding → (section bytes : List ℕ) → ℕ
    → List Contribution → List (List ℕ) → Result (List ℕ × List (List ℕ)) ErrorValue
rewritten_from order encoding section bytes at [] strings = Ok (drop at bytes, strings)
rewritten_from order encoding section bytes at (r ∷ rs) strings = do
  range ← remapped order encoding section
      (slice_range bytes r.offset.0 (r.offset.0 + r.size)) r.size strings
  rest ← rewritten_from order encoding section bytes (r.offset.0 + r.size) rs range.1
  Ok (slice_range bytes at r.offset.0 ++ range.0 ++ rest.0, rest.1)

-- the string offsets of a package with these indexes, once their strings are among the distinct
-- ones, and these strings
unfoldable pub packaged_offsets : Endianness → Encoding → (compilations types : Option Index)
    → (section bytes : List ℕ) → List (List ℕ) → Result (List ℕ × List (List ℕ)) ErrorValue
packaged_offsets order encoding compilations types section bytes strings = do
  _ ← ranges_test encoding (length bytes) 0 (offset_ranges compilations types)
  rewritten_from order encoding section bytes 0 (offset_ranges compilations types) strings
