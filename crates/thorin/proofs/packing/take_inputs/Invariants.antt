use Rattle.thorin_join.proofs.Terms.{List, take, ℕ}
use Rattle.thorin.specs.Run.{Ran}
use Rattle.thorin.proofs.packing.take_inputs.Given as goal

-- the inputs so far ran
abbrev pub invariant-loop-input : goal.invariant-loop-input
invariant-loop-input g l =
    (accepted : List (List ℕ)) × Ran (g.Sess.Session.offer l.session) (take l.input-index l.inputs)
    l.initial.builder.state l.outcomes.items l.builder.state accepted
