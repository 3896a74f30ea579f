use Rattle.thorin_index.specs.IndexText.{is_used}
use Rattle.std.proofs.Common.{false, take, ◌≡◌}
use Rattle.thorin_index.proofs.index_writer.is_used.Given as goal

abbrev pub invariant-loop-position : goal.invariant-loop-position
invariant-loop-position l = is_used (take l.position l.rows) l.kind ≡ false
