use Rattle.{dwp_table.specs.Table.IsHashTable, thorin_index.specs.Buckets.IsLooked}
use Rattle.std.proofs.Common.{map, take}
use Rattle.thorin_index.proofs.index_writer.bucket.Given as goal

-- the units so far stand in the table
abbrev pub invariant-loop-i : goal.invariant-loop-i
invariant-loop-i g l = record {
  table : IsHashTable (map g.B.Bucketable.identifier (take l.i l.units)) l.table;
  looked : IsLooked (map g.B.Bucketable.identifier (take l.i l.units)) l.table l.looked.items;
}
