-- The index that the fields of a `UnitIndex` hold.
use Rattle.std.specs.Prelude.{◌*◌, ◌≤◌, length, IsTrue}
use Rattle.dwp_index.specs.declared.unit_index.UnitIndex.TheInside.{Inside}
use Rattle.dwp_index.specs.Index.{Index}
use Rattle.dwp_index.specs.IndexBytes.{numbers, number_rows, is_slot_count}
use Rattle.dwp_index.specs.Places.{ArePlaces}

abbrev pub index_in : Inside → Index
index_in u = record {
  version = u.version;
  columns = numbers u.order 4 u.column_count u.columns.now;
  signatures = numbers u.order 8 u.slot_count u.signatures.now;
  rows = numbers u.order 4 u.slot_count u.rows.now;
  offsets = number_rows u.order u.column_count u.unit_count u.offsets.now;
  sizes = number_rows u.order u.column_count u.unit_count u.sizes.now;
}

-- each table has its bytes, and the places are those of the columns
pub record IsUnitIndex (u : Inside) : Type 0 where
  pub slots : IsTrue (is_slot_count u.unit_count u.slot_count)
  pub signatures : 8 * u.slot_count ≤ length u.signatures.now
  pub rows : 4 * u.slot_count ≤ length u.rows.now
  pub columns : 4 * u.column_count ≤ length u.columns.now
  pub offsets : 4 * u.column_count * u.unit_count ≤ length u.offsets.now
  pub sizes : 4 * u.column_count * u.unit_count ≤ length u.sizes.now
  pub places : ArePlaces u.places u.version u.column_count
      (numbers u.order 4 u.column_count u.columns.now)
