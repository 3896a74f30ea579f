use Rattle.dwp_strings.proofs.Hashed.{among_more, among_one, indexed_both, unordered}
use Rattle.dwp_strings.{proofs.Hashed.added, proofs.Hashed.used_found, specs.Hashed.held}
use Rattle.std.proofs.Common.{arith, inr, insert, refl, rules, ◌+◌, ◌≡◌}
use Rattle.dwp_strings.proofs.entries.Entries.place_ordered.Goals as goal

pub returns-in-Ok-clause-placed : goal.returns-in-Ok-clause-placed
returns-in-Ok-clause-placed c =
    grind (arith, used_found (held c.args.self.now) c.args.string.now, c.search.ensures.found)

pub returns : goal.returns
returns c =
    let e = c.args.self.now in
    let ordered = c.insert.new.self in
    let new = record e { bytes = c.append.new.self; count = e.count + 1; ordered = ordered } in
    let s = c.args.string.now in
    let table = c.requires.table in
    let long = c.len-place.ensures.value in
    let stands = rw (c.in-Err.is, c.as_slice.ensures.value) at c.search.ensures.absent in
    let absent = unordered e table s c.args.hash c.requires.hashed _ c.requires.ordered stands in
    let inserted : c.insert.new.self ≡ insert e.ordered c.in-Err.rank c.len-place.result =
    grind (arith, c.insert.ensures.ok) in
    let more = among_more e.ordered c.in-Err.rank c.len-place.result in
    let done = added e new s c.args.hash _ table c.requires.zero_free c.requires.hashed absent
    c.in_ok-append.ensures.ok c.len-place.ensures.value refl
    (rw (inserted, long) (indexed_both e.bytes e.ordered s table.indexed c.requires.zero_free absent
    c.in-Err.rank stands))
    (λ g m _ found. rw inserted (grind (arith, found, more m)))
    (inr (rw inserted (among_one e.ordered _ c.len-place.result), c.requires.ordered)) in
    search rules
