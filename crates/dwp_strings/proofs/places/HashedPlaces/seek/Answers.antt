use Rattle.dwp_strings.{proofs.Hashed.slot_from, proofs.Hashed.slot_within}
use Rattle.dwp_strings.specs.{Places.free, Places.place_of, declared.places.Slot.Slot}
use Rattle.std.proofs.lemmas.List.{get_or_read}
use Rattle.std.proofs.Common.{Some, ap, sym, ◌-◌, ◌∙◌}
use Rattle.dwp_strings.proofs.places.HashedPlaces.seek.Goals as goal

pub returns-clause-found : goal.returns-clause-found
unfolding place_of
returns-clause-found c =
    let items = c.args.self.now.slots.items in
    let number = c.in_ok-number.number in
    let slot = rw c.deref.ensures.value at c.in_ok-number.ensures.found in
    let read = get_or_read items number c.index.result.now (slot_within items number slot.used)
    c.index.ensures free in
    slot_from items c.args.hash number _ 128 slot.from slot.passed slot.within slot.used slot.same
    ∙ ap (λ (s : Slot). Some (s.behind - 1)) (sym read)
