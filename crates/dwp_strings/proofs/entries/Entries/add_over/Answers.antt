use Rattle.dwp_strings.proofs.Hashed.{added, indexed_push, misplaced}
use Rattle.{dwp_strings.specs.Strings.BeginsAt, std.proofs.lemmas.Bool.cases_eq}
use Rattle.std.proofs.Common.{arith, inl, refl, rules, ◌+◌}
use Rattle.dwp_strings.proofs.entries.Entries.add_over.Goals as goal

pub returns : goal.returns
returns c =
    let e = c.args.self.now in
    let places = c.give.new.self in
    let new = record e { bytes = c.append.new.self; count = e.count + 1; places = places } in
    let s = c.args.string.now in
    let table = c.requires.table in
    let gone : BeginsAt e.bytes c.args.place → ⊥ = λ begins.
    let is = c.begins_at.ensures.1 (rw c.as_slice.ensures.value begins) in cc in
    let absent = misplaced e table s c.args.hash c.requires.hashed c.args.place c.requires.has
    c.requires.own (λ here. gone here.0) in
    let done = added e new s c.args.hash _ table c.requires.zero_free c.requires.hashed absent
    c.in_ok-append.ensures.ok c.len-last.ensures.value refl
    (indexed_push e.bytes e.ordered s table.indexed c.requires.zero_free absent)
    (λ g m begun found. grind (arith, c.give.ensures.others g, cases_eq g c.args.hash, gone))
    (inl (grind (arith, c.give.ensures.given _ c.requires.has), c.in-Some.ensures.fits)) in
    search rules
