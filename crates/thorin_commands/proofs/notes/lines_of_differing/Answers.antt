use Rattle.{std.proofs.Common.string_bytes, thorin_commands.proofs.Warned.named_next}
use Rattle.thorin_commands.proofs.notes.lines_of_differing.Goals as goal

pub loop-number-preserved : goal.loop-number-preserved
loop-number-preserved g c = named_next _ c.loop-number.number _ (string_bytes c.loop-number.lines)
    (string_bytes c.push_str.new.self) _ c.loop-number-test.true c.loop-number.invariant
    (rw (c.as_str-in-loop-number.ensures.value, c.in_ok-line.ensures) at
    c.in_ok-push_str.ensures.bytes)
