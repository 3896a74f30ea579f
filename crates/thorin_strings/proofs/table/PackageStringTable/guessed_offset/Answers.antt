use Rattle.thorin_strings.proofs.Remapping.{read_front, read_used}
use Rattle.std.proofs.Common.{arith, refl}
use Rattle.thorin_strings.proofs.table.PackageStringTable.guessed_offset.Goals as goal

pub returns-clause-meaning : goal.returns-clause-meaning
returns-clause-meaning c =
    rw (← c.self.view_is) (read_used _ _ _ _ _ _ (read_front c.args.debug_str.now _ c.args.named _
    (omega arith) refl (omega arith) c.if-rest-end-ne0.false) c.in_ok-offset.ensures.placed)
