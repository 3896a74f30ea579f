use Rattle.std.proofs.{Common.get_or, Common.rules, Common.take_all, lemmas.List.take_more}
use Rattle.thorin.specs.declared.packing.Input.{Input, TheVariants.Object}
use Rattle.thorin_join.proofs.Terms.{take, [], ◌++◌, ◌∷◌, ◌≡◌}
use Rattle.thorin.proofs.Running.{ran-next}
use Rattle.thorin.proofs.packing.take_inputs.Goals as goal

pub loop-input-preserved : goal.loop-input-preserved
loop-input-preserved g c =
    let offer = g.Sess.Session.offer c.args.session.now in
    let none : Input = Object (record { text = record { ref_ptr = (0, 0); now = [] } }) in
    let input = get_or c.args.inputs.now c.loop-input.input-index none in
    let more = take_more c.args.inputs.now c.loop-input.input-index none c.loop-input-test.true in
    let took = rw (← c.undeclined-outcome.ensures) at c.take_input.ensures.taken in
    let pushed : c.push.new.self.items ≡ c.loop-input.outcomes.items ++ c.undeclined-outcome.result
    ∷ [] = search (rules, c.in_ok-push.ensures.items) in
    let ran = ran-next offer (take c.loop-input.input-index c.args.inputs.now) input
    c.args.builder.now.state c.loop-input.builder.state c.take_input.new.builder.state
    c.loop-input.outcomes.items c.undeclined-outcome.result c.loop-input.invariant.0
    took.accepted c.loop-input.invariant.1 took.takes in
    (c.loop-input.invariant.0 ++ took.accepted, rw (more, pushed) ran)

pub returns-clause-ran : goal.returns-clause-ran
returns-clause-ran g c =
    let over = take_all c.loop-input.input-index c.args.inputs.now c.loop-input-test.false in
    (c.loop-input.invariant.0, rw over at c.loop-input.invariant.1)
