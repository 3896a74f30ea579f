use Rattle.dwp_dwarf.proofs.Places.{places_stay, put_keeps}
use Rattle.dwp_dwarf.specs.Chains.{RemembersPlace}
use Rattle.dwp_dwarf.proofs.chains.Chains.learn.Goals as goal

pub returns-in_err-place-clause-places : goal.returns-in_err-place-clause-places
returns-in_err-place-clause-places g c = places_stay _ c.args.self.now c.place_at.new.self
    c.place_at.ensures.places c.place_at.ensures.grows

pub returns-clause-places : goal.returns-clause-places
returns-clause-places g c = λ r.
    let section = g.R.Reader.input c.args.section in
    let others = places_stay section c.args.self.now c.place_at.new.self c.place_at.ensures.places
    c.place_at.ensures.grows r in
    put_keeps (RemembersPlace section c.place_at.new.self.firsts.nodes.items)
    c.place_at.new.self.places c.put.new.map c.args.left c.in_ok-place.place c.put.result
    (c.in_ok-place.ensures.place section r c.in_ok-at.ensures) c.put.ensures.added
    c.put.ensures.others c.put.ensures.refused others
