use Rattle.dwp_strings.proofs.Hashed.{added, indexed_push, unplaced}
use Rattle.dwp_strings.proofs.Named.{ended_free, ended_front, ended_take}
use Rattle.std.proofs.Common.{arith, inl, refl, rules, take, ◌+◌}
use Rattle.dwp_strings.specs.{Ends.IsFirstZero, Places.shared}
use Rattle.dwp_strings.proofs.entries.Entries.add_guessed.Goals as goal

pub returns : goal.returns
returns c =
    let e = c.args.self.now in
    let bytes = c.append_guessed.new.self in
    let new = record e { bytes = bytes; count = e.count + 1; places = c.enter.new.self } in
    let s = take c.args.end c.args.rest.now in
    let table = c.requires.table in
    let first : IsFirstZero c.args.rest.now c.args.end =
    c.if-not-append_guessed.ensures.first refl in
    let free = ended_free c.args.rest.now c.args.end first in
    let ended = ended_take c.args.rest.now c.args.end first in
    let absent = unplaced e table s c.args.hash c.requires.hashed c.if-self.false c.requires.none in
    let done = added e new s c.args.hash _ table free c.requires.hashed absent
    (grind (arith, ended, c.if-not-append_guessed.ensures.appended refl))
    c.len-place.ensures.value refl
    (indexed_push e.bytes e.ordered s table.indexed free absent)
    (λ g m _ found. grind (arith, found, c.enter.ensures.kept g m, c.enter.ensures.kept g shared))
    (inl (c.if-not-enter.ensures.entered refl, c.if-not-enter.ensures.fits refl)) in
    let placed = rw (← ended_front c.args.rest.now c.args.end first) at done.1 in
    search rules
