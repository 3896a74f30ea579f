use Rattle.dwp_strings.{proofs.Hashed.hashed_kept, specs.Places.place_in}
use Rattle.std.proofs.{Common.arith, Common.refl, Common.Some, Common.◌≡◌, lemmas.Bool.cases_eq}
use Rattle.dwp_strings.proofs.entries.Entries.share.Goals as goal

pub returns-clause-table : goal.returns-clause-table
returns-clause-table c =
    let e = c.keep_ordered.new.self in
    let table = c.keep_ordered.ensures.table in
    let h = c.args.hash in
    let has : place_in e.places h ≡ Some c.args.place = grind arith in
    let given = c.give.ensures.given _ has in
    let there = c.in_ok-keep_ordered.ensures.there in
    let new = record e { places = c.give.new.self } in
    hashed_kept e new table refl refl table.indexed
    (λ g m begun found. grind (arith, c.give.ensures.others g, cases_eq g h, given, there))
