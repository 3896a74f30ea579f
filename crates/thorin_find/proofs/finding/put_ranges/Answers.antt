use Rattle.thorin_print.proofs.Lines.{flat_map_next}
use Rattle.thorin_find.proofs.finding.put_ranges.Goals as goal

pub loop-kind-preserved : goal.loop-kind-preserved
loop-kind-preserved c =
    flat_map_next _ _ c.loop-kind.kind-index _ _ _ _ c.loop-kind-test.true c.loop-kind.invariant
    (rw c.range.ensures at c.in_ok-put_range.ensures)
