use Rattle.dwp_dwarf.proofs.{Terms.declaration_of, Terms.sym, Terms.◌≡◌, Values.split_needed}
use Rattle.dwp_dwarf.proofs.needed.NeededLists.split.Goals as goal

pub returns-in-Some-clause-split : goal.returns-in-Some-clause-split
returns-in-Some-clause-split g c = λ said is old.
    let d = declaration_of g.R.Reader.input c.args.abbreviation in
    let found = rw c.in-Some.is at (sym c.get.ensures.value) in
    let has = rw found at (c.list.ensures said is old c.args.key) in
    let one = has.is in
    let same : has.declared ≡ d = cc in
    rw (c.deref.ensures.value, has.listed, same, split_needed) at c.split_listed.ensures
