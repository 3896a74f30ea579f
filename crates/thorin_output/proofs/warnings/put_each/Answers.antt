use Rattle.std.proofs.Common.{string_bytes}
use Rattle.{thorin_output.specs.Warnings.differing_line, thorin_print.proofs.Lines.flat_map_next}
use Rattle.thorin_output.proofs.warnings.put_each.Goals as goal

pub loop-signature-preserved : goal.loop-signature-preserved
loop-signature-preserved c = flat_map_next differing_line c.args.differing.now
    c.loop-signature.signature-index (record { 0 = 0 }) (string_bytes c.args.text.now)
    (string_bytes c.loop-signature.text) (string_bytes c.put_between.new.text)
    c.loop-signature-test.true c.loop-signature.invariant c.in_ok-put_between.ensures
