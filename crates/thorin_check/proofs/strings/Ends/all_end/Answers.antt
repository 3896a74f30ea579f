use Rattle.{std.proofs.Common.arith, thorin_check.proofs.Packages.all_read}
use Rattle.thorin_check.proofs.strings.Ends.all_end.Goals as goal

pub returns : goal.returns
returns c = λ yes h i.
    let made = c.offsets_of-offsets in
    rw (← made.ensures.encoding, ← made.ensures.bytes) (all_read c.args.self _ _ h
    made.result.encoding made.result.offsets.now c.loop-i.i (omega arith)
    (rw made.ensures.order at c.loop-i.invariant) i)
