use Rattle.std.proofs.{Common.arith, Common.refl, Common.sym, lemmas.List.with_items_is}
use Rattle.dwp_strings.proofs.places.HashedPlaces.enter.Goals as goal

pub returns-then-put_next-clause-entered : goal.returns-then-put_next-clause-entered
returns-then-put_next-clause-entered c = λ _.
    let given = c.if-put_next.ensures.put refl c.args.self.now.size c.args.place in
    grind (arith, with_items_is c.args.self.now.slots c.put_next.new.slots, given)

pub returns-clause-entered : goal.returns-clause-entered
returns-clause-entered c = λ is.
    c.enter_in_more-2.ensures.entered is c.args.place (sym c.in-Some.ensures.value)

pub returns-then-self-eq0-clause-entered : goal.returns-then-self-eq0-clause-entered
returns-then-self-eq0-clause-entered c = λ is.
    c.enter_in_more.ensures.entered is c.args.place (sym c.in-Some.ensures.value)
