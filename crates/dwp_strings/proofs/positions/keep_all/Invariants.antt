use Rattle.dwp_strings.{proofs.Chunks.IsKept, specs.Chunks.pieces}
use Rattle.std.proofs.Common.{filter, nat_lt}
use Rattle.dwp_strings.proofs.positions.keep_all.Given as goal

abbrev pub invariant-loop-at : goal.invariant-loop-at
invariant-loop-at l = IsKept (filter (λ p. nat_lt p l.limit)) (pieces l.initial.chunks.items)
    (pieces l.chunks.items) l.starts l.at l.total
