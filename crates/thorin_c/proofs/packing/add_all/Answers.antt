use Rattle.thorin_c.proofs.Lists.{accepts-next}
use Rattle.thorin_c.proofs.packing.add_all.Goals as goal

pub loop-number-preserved : goal.loop-number-preserved
loop-number-preserved c =
    accepts-next c.args.inputs.now c.loop-number.number _ c.args.builder.now.state
    c.loop-number.builder.state c.add_object_bytes.new.self.state c.loop-number-test.true
    c.loop-number.invariant c.in_default.ensures.meaning c.in_default.ensures.joins
