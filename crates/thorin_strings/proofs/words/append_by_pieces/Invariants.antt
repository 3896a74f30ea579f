use Rattle.std.{specs.Slice.Iter.chunks_rest, proofs.Common.◌++◌, proofs.Common.◌≡◌}
use Rattle.thorin_strings.proofs.words.append_by_pieces.Given as goal

abbrev pub invariant-loop-piece : goal.invariant-loop-piece
invariant-loop-piece l =
    goal.iterator-loop-piece.can_next l.piece-iterator
    × goal.iterator-loop-piece.is_finite l.piece-iterator
    × (l.out.items ++ chunks_rest l.piece-iterator ≡ l.initial.out.items ++ l.bytes)
