use Rattle.dwp_strings.{proofs.Hashed.free_past, proofs.Hashed.none_from, specs.Places.place_of}
use Rattle.std.proofs.Common.{arith}
use Rattle.dwp_strings.proofs.places.find.Goals as goal

pub loop-number-init : goal.loop-number-init
loop-number-init c = λ j low less. grind arith

pub returns-then-slot-eq0-clause-none : goal.returns-then-slot-eq0-clause-none
unfolding place_of
returns-then-slot-eq0-clause-none c = none_from _ _ c.loop-number.number _ 128 (grind arith)
    c.loop-number.invariant (λ _. c.if-slot-eq0.true)

pub returns-clause-none : goal.returns-clause-none
unfolding place_of
returns-clause-none c = none_from _ _ c.loop-number.number _ 128 (grind arith)
    c.loop-number.invariant (λ more. grind (arith, free_past))
