use Rattle.dwp_strings.proofs.Hashed.{hashed_kept, inserted_or, known_offset_in}
use Rattle.dwp_strings.proofs.Named.{string_was}
use Rattle.std.proofs.Common.{arith, refl, sym, ◌∙◌}
use Rattle.dwp_strings.proofs.entries.Entries.keep_ordered.Goals as goal

pub returns-in-Ok-place-clause-there : goal.returns-in-Ok-place-clause-there
returns-in-Ok-place-clause-there c = λ begins.
    let e = c.args.self.now in
    let found = rw (c.in-Ok-place.is, c.as_slice-bytes.ensures.value) at c.search.ensures.found in
    let among = rw c.in-Ok-place.is at c.search.ensures.there in
    let is = rw c.as_slice-bytes.ensures.value at (string_was _ _ _ c.in-Ok.ensures.meaning) in
    let known = known_offset_in e.bytes _ _ c.args.place c.requires.table.indexed begins is in
    rw (found.1 ∙ sym known.1) at among

pub returns-in-Err-clause-table : goal.returns-in-Err-clause-table
returns-in-Err-clause-table c =
    let e = c.args.self.now in
    let table = c.requires.table in
    let s = c.in-Ok.string.now in
    let stands = rw (c.in-Err.is, c.as_slice-bytes.ensures.value) at c.search.ensures.absent in
    let is = rw c.as_slice-bytes.ensures.value at (string_was _ _ _ c.in-Ok.ensures.meaning) in
    let begins = rw c.as_slice-bytes.ensures.value at (c.begins_at.ensures.0
    c.if-not-begins_at.false) in
    let now = inserted_or e.bytes e.ordered s c.in-Err.rank c.args.place _ c.insert.result
    table.indexed stands begins is c.insert.ensures.ok c.insert.ensures.err in
    let new = record e { ordered = c.insert.new.self } in
    hashed_kept e new table refl refl now.0 (λ g m _ found. grind (arith, found, now.1 m))
