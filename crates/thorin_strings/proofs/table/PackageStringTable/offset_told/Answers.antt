use Rattle.thorin_strings.proofs.Remapping.{are_known_later, known_used, was_read}
use Rattle.thorin_strings.proofs.table.PackageStringTable.offset_told.Goals as goal

pub returns-clause-known : goal.returns-clause-known
returns-clause-known c =
    let read = was_read c.args.debug_str.now c.args.named c.in_ok-offset.offset c.args.self.now
    c.placed.new.self c.in_ok-offset.ensures.meaning in
    c.enter-remembered.ensures _ _ (are_known_later _ _ _ _ c.placed.ensures.kept c.requires.known)
    (known_used _ _ _ _ _ _ read.1 read.2)
