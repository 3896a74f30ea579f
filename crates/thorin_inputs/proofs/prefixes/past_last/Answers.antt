use Rattle.{std.proofs.Common.arith, std.proofs.Common.◌-◌, thorin_inputs.proofs.Fronts.walked-on}
use Rattle.thorin_inputs.proofs.{Fronts.walked-first, prefixes.past_last.Invariants.none}
use Rattle.thorin_inputs.proofs.prefixes.past_last.Goals as goal

pub loop-place-init : goal.loop-place-init
loop-place-init c =
    walked-first c.args.last.now c.args.count c.args.text.now c.requires.inside (none, none)
    (omega (arith, c.if-count-eq0.false))

pub loop-place-smaller : goal.loop-place-smaller
loop-place-smaller c =
    let past = c.requires.nested.past (c.loop-place.place - 1) (none, none)
    (omega (arith, c.loop-place-test.true, c.loop-place.invariant.inside)) in
    omega (arith, past.inside, c.loop-place-test.true)

pub loop-place-preserved : goal.loop-place-preserved
loop-place-preserved c =
    walked-on c.args.last.now c.args.count c.args.text.now c.requires.inside (none, none)
    c.common_length-common.result
    (rw (c.as_bytes.ensures.value, c.as_bytes-2.ensures.value) at c.common_length-common.ensures)
    c.args.inner.now c.requires.ordered c.requires.nested c.requires.before c.loop-place.place
    c.loop-place.invariant c.loop-place-test.true c.if-last-place.true
