use Rattle.dwp_strings.proofs.Hashed.{each_from, slot_within}
use Rattle.dwp_strings.specs.Places.{free, home, place_of}
use Rattle.std.proofs.Common.{arith, get_or, refl, ◌-◌}
use Rattle.dwp_strings.proofs.places.put_again.Goals as goal

pub loop-number-preserved : goal.loop-number-preserved
loop-number-preserved c = λ j less some.
    let given = c.if-not-put.ensures.put refl ((get_or c.args.others.now j free).behind - 1) in
    grind (arith, given, c.put.ensures.kept, c.loop-number.invariant j)

pub loop-number-preserved-then-slot-eq0 : goal.loop-number-preserved-then-slot-eq0
loop-number-preserved-then-slot-eq0 c = grind (arith, c.loop-number.invariant)

pub returns : goal.returns
unfolding place_of
returns c = λ other h n. each_from c.args.others.now c.loop-number.slots c.args.size
    (home other h) 128 h n (λ j some. c.loop-number.invariant j
    (omega (arith, slot_within c.args.others.now j some)) some)
