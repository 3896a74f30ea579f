use Rattle.thorin_check.proofs.Packages.{all_apart, next_apart}
use Rattle.std.proofs.Common.{arith}
use Rattle.thorin_check.proofs.overlaps.are_apart.Goals as goal

pub loop-i-preserved : goal.loop-i-preserved
loop-i-preserved c =
    next_apart c.args.ranges.now c.loop-i.i _ _ (omega arith) c.loop-i-test.true
    c.loop-i.invariant (c.is_apart.ensures c.if-not-is_apart.false)

pub returns : goal.returns
returns c = λ yes i j d lt within.
    all_apart c.args.ranges.now c.loop-i.i c.loop-i.invariant i j d lt (omega arith)
