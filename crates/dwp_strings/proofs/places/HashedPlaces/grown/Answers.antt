use Rattle.std.proofs.{Common.arith, Common.refl, lemmas.List.with_items_is}
use Rattle.std.specs.Vec.{with_items}
use Rattle.dwp_strings.proofs.places.HashedPlaces.grown.Goals as goal

pub returns-clause-entered : goal.returns-clause-entered
returns-clause-entered c = λ n more.
    let slots = with_items c.in_ok-slots.slots c.put_again.new.slots in
    grind (arith, with_items_is slots c.put.new.slots, c.if-not-put.ensures.put refl n more)
