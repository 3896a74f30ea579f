use Rattle.std.proofs.{Common.inl, Common.rules, Common.w32, lemmas.Int.to_z-of_z}
use Rattle.thorin_c.proofs.Lists.{at_an_input, refuses}
use mir.Val.{SFits}
use Rattle.thorin_c.proofs.packing.thorin_differing_types.Goals as goal

pub returns-in-Err-clause-refused : goal.returns-in-Err-clause-refused
returns-in-Err-clause-refused c = λ h. refuses c.args.inputs.now c.in-Err.refusal _
    (inl (rw c.new-builder.ensures.state at c.in-Err.ensures.refused))
    (c.refused.ensures.told (search (rules, h)))

pub returns-in-Err-clause-memory : goal.returns-in-Err-clause-memory
returns-in-Err-clause-memory c = λ h.
    let at = rw c.new-builder.ensures.state at c.in-Err.ensures.refused in
    rw (c.refused.ensures.memory (search (rules, h))).1
    (record { within = at.within; state = at.state; before = at.before })

pub returns-in-Err-clause-status : goal.returns-in-Err-clause-status
returns-in-Err-clause-status c =
    let fits : SFits w32 c.refused.result = search rules in
    simp to_z-of_z (at_an_input _ _ _ _ c.in-Err.ensures.refused.within
    c.refused.ensures.unfinished c.refused.ensures.status)
