use Rattle.dwp_strings.specs.Places.{shared}
use Rattle.dwp_strings.proofs.Hashed.{added, indexed_push, unplaced}
use Rattle.std.proofs.Common.{arith, inl, refl, rules, ◌+◌}
use Rattle.dwp_strings.proofs.entries.Entries.add.Goals as goal

pub returns : goal.returns
returns c =
    let e = c.args.self.now in
    let places = c.enter.new.self in
    let new = record e { bytes = c.append.new.self; count = e.count + 1; places = places } in
    let s = c.args.string.now in
    let table = c.requires.table in
    let absent = unplaced e table s c.args.hash c.requires.hashed c.requires.open c.requires.none in
    let done = added e new s c.args.hash _ table c.requires.zero_free c.requires.hashed absent
    c.in_ok-append.ensures.ok c.len-place.ensures.value refl
    (indexed_push e.bytes e.ordered s table.indexed c.requires.zero_free absent)
    (λ g m _ found. grind (arith, found, c.enter.ensures.kept g m, c.enter.ensures.kept g shared))
    (inl (c.if-not-enter.ensures.entered refl, c.if-not-enter.ensures.fits refl)) in
    search rules
