use Rattle.{std.proofs.lemmas.List.Sorted.Contains-permutation}
use Rattle.{thorin_check.proofs.Packages.first_all}
use Rattle.thorin_check.proofs.overlaps.sorted_ranges.Goals as goal

pub returns-then-is_sorted : goal.returns-then-is_sorted
returns-then-is_sorted c = first_all c.args.pack.now c.args.entries.now c.args.kind
    c.loop-entry.entry _ c.loop-entry-test.false c.loop-entry.invariant

pub returns : goal.returns
returns c = λ slot is range here.
    let there = first_all c.args.pack.now c.args.entries.now c.args.kind c.loop-entry.entry _
    c.loop-entry-test.false c.loop-entry.invariant slot is range here in
    let placed = Contains-permutation _ _ there.0 c.sort_by_key.ensures.permutation there.1 in
    (there.0, placed, there.2, there.3, there.4)
