use Rattle.thorin_index.specs.IndexText.{entry_ids, signatures_bytes}
use Rattle.std.proofs.Common.{take, ◌++◌, ◌≡◌}
use Rattle.thorin_index.proofs.index_writer.put_signatures.Given as goal

abbrev pub invariant-loop-row : goal.invariant-loop-row
invariant-loop-row l = l.out.items ≡ l.initial.out.items ++ signatures_bytes l.order
    (entry_ids l.rows) (take l.row-index l.slots)
