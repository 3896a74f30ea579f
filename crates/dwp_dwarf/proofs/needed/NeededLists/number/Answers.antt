use Rattle.dwp_dwarf.proofs.Terms.{declaration_of, none_met, sym, ◌∙◌, ◌≡◌}
use Rattle.dwp_dwarf.proofs.Values.{first_needed}
use Rattle.dwp_dwarf.proofs.needed.NeededLists.number.Goals as goal

pub returns-in-Some-clause-number : goal.returns-in-Some-clause-number
returns-in-Some-clause-number g c = λ said is old.
    let d = declaration_of g.R.Reader.input c.args.abbreviation in
    let found = rw c.in-Some.is at (sym c.get.ensures.value) in
    let has = rw found at (c.list.ensures said is old c.args.key) in
    let one = has.is in
    let same : has.declared ≡ d = cc in
    c.number_listed.ensures ∙ rw (c.deref.ensures.value, has.listed, same)
    (first_needed _ _ none_met d.specifications _)
