use Rattle.std.proofs.{Common.take_all, lemmas.Bool.not-false, lemmas.List.Elements.All-more}
use Rattle.{dwp_base.proofs.Bools.neither, thorin_check.proofs.Packages.slots_apart}
use Rattle.{dwp_table.specs.Columns.contribution_kinds, thorin_check.specs.Apart.AreApartIn}
use Rattle.thorin_check.proofs.overlaps.Overlaps.find.Goals as goal

pub loop-kind-preserved : goal.loop-kind-preserved
loop-kind-preserved c = λ none.
    let both = neither c.loop-kind.clash _ none in
    All-more (AreApartIn c.args.pack.now c.args.entries.now) contribution_kinds
    c.loop-kind.kind-index _ c.loop-kind-test.true (c.loop-kind.invariant both.0)
    (slots_apart c.args.pack.now c.args.entries.now _ _ c.in_ok-ranges.ensures
    (rw c.as_slice.ensures.value at (c.are_apart.ensures (not-false _ both.1))))

pub returns : goal.returns
returns c = rw (take_all c.loop-kind.kind-index contribution_kinds c.loop-kind-test.false)
    at c.loop-kind.invariant
