use Rattle.thorin_index.proofs.Held.{SameUpTo}
use Rattle.thorin_index.proofs.rows.same_entry.Given as goal

-- the contributions so far are the same
abbrev pub invariant-loop-kind : goal.invariant-loop-kind
invariant-loop-kind l = SameUpTo l.kind-index l.a l.b
