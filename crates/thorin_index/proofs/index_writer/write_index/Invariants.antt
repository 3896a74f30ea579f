use Rattle.std.proofs.Common.{take, ◌≡◌}
use Rattle.thorin_index.proofs.index_writer.write_index.Given as goal

-- the entries so far are rows
abbrev pub invariant-loop-entry : goal.invariant-loop-entry
invariant-loop-entry l = l.rows ≡ take l.entry-index l.entries
