use Rattle.thorin_index.proofs.Held.{index_is, rows_within}
use Rattle.std.proofs.Common.{arith}
use Rattle.thorin_index.proofs.index_writer.write_rows.Goals as goal

pub index_text-requires : goal.index_text-requires
index_text-requires c = record {
  few_columns = omega (arith, c.in_ok-columns.ensures.few);
  few_rows = omega (arith, c.in_ok-test_entries.ensures.few);
  few_slots = rw c.deref-2.ensures.value c.in_ok-slots.ensures.table.small;
  rows = rw c.deref-2.ensures.value
      (rows_within c.args.rows.now c.in_ok-slots.slots.items c.in_ok-slots.ensures.table);
  offsets = c.in_ok-test_entries.ensures.offsets;
  sizes = c.in_ok-test_entries.ensures.sizes;
}

pub returns-clause-written : goal.returns-clause-written
returns-clause-written c = index_is c.args.endianness
    c.args.rows.now c.encoding-encoding.result c.in_ok-slots.slots.items _ (omega arith)
    c.encoding-encoding.ensures c.in_ok-slots.ensures.table c.in_ok-slots.ensures.slots (rw (
      c.deref.ensures.value,
      c.in_ok-columns.ensures.used,
      c.deref-2.ensures.value,
      c.dwarf_package_index_version-version.ensures,
    ) at c.in_ok-index_text.ensures)
