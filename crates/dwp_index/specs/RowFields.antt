-- The ranges that the fields of a `Row` hold.
use Rattle.std.specs.Prelude.{◌*◌, ◌≤◌, length}
use Rattle.dwp_index.specs.declared.unit_index.Row.TheInside.{Inside}
use Rattle.dwp_index.specs.Index.{Ranges}
use Rattle.dwp_index.specs.IndexBytes.{numbers}
use Rattle.dwp_index.specs.Places.{ArePlaces}

abbrev pub ranges_in : Inside → Ranges
ranges_in r = record {
  version = r.version;
  columns = numbers r.order 4 r.column_count r.columns.now;
  offsets = numbers r.order 4 r.column_count r.offsets.now;
  sizes = numbers r.order 4 r.column_count r.sizes.now;
}

-- each list has its bytes, and the places are those of the columns
pub record IsRow (r : Inside) : Type 0 where
  pub columns : 4 * r.column_count ≤ length r.columns.now
  pub offsets : 4 * r.column_count ≤ length r.offsets.now
  pub sizes : 4 * r.column_count ≤ length r.sizes.now
  pub places : ArePlaces r.places r.version r.column_count
      (numbers r.order 4 r.column_count r.columns.now)
