use Rattle.thorin_index.specs.IndexText.{column_numbers, numbers_bytes}
use Rattle.std.proofs.Common.{take, ◌++◌, ◌≡◌}
use Rattle.thorin_index.proofs.index_writer.put_columns.Given as goal

abbrev pub invariant-loop-kind : goal.invariant-loop-kind
invariant-loop-kind l = l.out.items ≡ l.initial.out.items ++ numbers_bytes l.order
    (column_numbers l.version (take l.kind-index l.columns))
