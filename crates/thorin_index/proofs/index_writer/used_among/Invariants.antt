use Rattle.std.proofs.Common.{filter, take, vec_len, ◌≡◌, ◌≤◌}
use Rattle.thorin_index.specs.IndexText.{is_used}
use Rattle.thorin_index.proofs.index_writer.used_among.Given as goal

abbrev pub invariant-loop-kind : goal.invariant-loop-kind
invariant-loop-kind l = record {
  used : l.columns.items ≡ filter (is_used l.rows) (take l.kind-index l.kinds);
  few : vec_len l.columns ≤ l.kind-index;
}
