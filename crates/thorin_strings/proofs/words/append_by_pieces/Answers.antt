use Rattle.std.proofs.Common.{append-nil, append_assoc, arith, rules}
use Rattle.std.proofs.lemmas.List.{nil_from_length}
use Rattle.thorin_strings.proofs.words.append_by_pieces.Goals as goal

pub loop-piece-init : goal.loop-piece-init
loop-piece-init c = (search rules, tt, search rules)

pub loop-piece-preserved : goal.loop-piece-preserved
loop-piece-preserved c = (search rules, tt, grind (arith, append_assoc, c.in-Some.ensures.steps))

pub returns : goal.returns
returns c =
    let none = nil_from_length _ c.in-None.ensures.steps.1.0 in
    let so_far = rw (none, append-nil) at c.loop-piece.invariant.2 in
    first_of (cc, grind arith)
