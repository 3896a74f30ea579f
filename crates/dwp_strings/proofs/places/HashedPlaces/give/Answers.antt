use Rattle.dwp_strings.specs.{Places.free, Places.place_of, declared.places.Slot.Slot}
use Rattle.dwp_strings.proofs.Hashed.{given_of, others_from, slot_within}
use Rattle.std.proofs.{Common.ap, Common.refl, Common.◌∙◌, lemmas.List.get_or_read}
use Rattle.dwp_strings.proofs.places.HashedPlaces.give.Goals as goal

pub returns-in-Ok : goal.returns-in-Ok
unfolding place_of
returns-in-Ok c =
    let items = c.args.self.now.slots.items in
    let slot = rw c.deref.ensures.value at c.in-Ok.ensures.found in
    let within = slot_within items c.in-Ok.number slot.used in
    let read = get_or_read _ _ _ within c.index_mut.ensures.value free in
    let same = ap (λ (s : Slot). s.hash) read in
    record {
      given = λ n is. rw (same ∙ slot.same) (given_of items
          (record { hash = c.args.hash; behind = c.args.behind }) c.in-Ok.number within
          c.requires.some c.args.self.now.size slot);
      others = λ h other. others_from items _ c.in-Ok.number within c.requires.some _ 128 h same
          slot.used (λ e. other (e ∙ same ∙ slot.same));
      full = refl;
    }
