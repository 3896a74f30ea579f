use Rattle.{dwp_strings.proofs.Named.offset_within, std.proofs.Common.arith, std.proofs.Common.refl}
use Rattle.thorin_strings.proofs.Remapping.{ended_read, read_used}
use Rattle.thorin_strings.proofs.table.PackageStringTable.placed.Goals as goal

pub place-requires : goal.place-requires
place-requires c =
    (ended_read c.args.debug_str.now _ c.args.named c.if-is_near.end (omega arith) refl
    (grind (arith, c.if-is_near.branch))).1

pub returns-clause-meaning : goal.returns-clause-meaning
returns-clause-meaning c =
    let read = ended_read c.args.debug_str.now _ c.args.named c.if-is_near.end (omega arith) refl
    (grind (arith, c.if-is_near.branch)) in
    rw (← c.self.view_is) (read_used _ _ _ _ _ _ read.0 c.in-Ok.ensures.placed)

pub returns-clause-fits : goal.returns-clause-fits
returns-clause-fits c = grind (arith, offset_within, c.in-Ok.ensures.placed, c.self.view_is)
