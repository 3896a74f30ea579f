use Rattle.thorin_print.proofs.output.put.Goals as goal
use Rattle.thorin_print.proofs.output.put.Goals.{in-Ok, in-Err+else-ne}
use Rattle.std.proofs.Common.{arith, refl, take, take-append-drop}
use Rattle.std.proofs.{KnownBytes.Keeps-refl, lemmas.List.take_rest}
use Rattle.thorin_print.proofs.Printed.{none_taken, part, so_far_kept, so_far_more}

pub loop-turn-preserved : goal.loop-turn-preserved
loop-turn-preserved g c = elim c.match-write.branch [
  | in-Ok w ↦ (let rest = c.loop-turn.rest.now in let n = w.in-Ok.taken in
      rw w.rest-is (so_far_more _ rest (take n rest) _ c.loop-turn.invariant
      (grind (arith, take-append-drop n rest, take_rest rest n)) w.in-Ok.ensures.bytes))
  | in-Err+else-ne w ↦ rw w.rest-is (so_far_kept _ c.loop-turn.invariant w.in-Err.ensures.bytes)
]

pub returns-in-Ok-eq0-clause-part : goal.returns-in-Ok-eq0-clause-part
returns-in-Ok-eq0-clause-part g c =
    let kept = none_taken _ _ c.loop-turn.rest.now
    (rw c.in-Ok-eq0.field-0-test at c.in-Ok-eq0.ensures.bytes) in
    (refl, part _ _ _ _ _ c.loop-turn.invariant kept)

pub returns-then-ne-clause-part : goal.returns-then-ne-clause-part
returns-then-ne-clause-part g c =
    (refl, part _ _ _ _ _ c.loop-turn.invariant c.in-Err.ensures.bytes)

pub returns-clause-part : goal.returns-clause-part
returns-clause-part g c = (refl, part _ _ _ _ _ c.loop-turn.invariant (Keeps-refl _))
