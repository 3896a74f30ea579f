use Rattle.thorin_print.proofs.Printed.{SoFar}
use Rattle.thorin_print.proofs.output.put.Given as goal

-- all but the rest was handed over
abbrev pub invariant-loop-turn : goal.invariant-loop-turn
invariant-loop-turn g l = SoFar (g.O.Write.contents l.initial.out) (g.O.Write.contents l.out)
    l.initial.rest l.rest
