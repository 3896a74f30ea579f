use Rattle.thorin_index.specs.IndexText.{measure_of, numbers_bytes, row_numbers, rows_bytes}
use Rattle.std.proofs.Common.{get_or, take, ◌++◌, ◌≡◌}
use Rattle.thorin_index.specs.Rows.{blank}
use Rattle.thorin_index.proofs.index_writer.put_rows.Given as goal

abbrev pub invariant-loop-position : goal.invariant-loop-position
invariant-loop-position l = l.out.items ≡ l.initial.out.items ++ rows_bytes l.order
    (measure_of l.measure) l.columns (take l.position l.rows)

abbrev pub invariant-loop-kind : goal.invariant-loop-kind
invariant-loop-kind l = l.out.items ≡ l.initial.out.items ++ numbers_bytes l.order (row_numbers
    (measure_of l.measure) (take l.kind-index l.columns) (get_or l.rows l.position blank))
