use Rattle.dwp_elf_read.proofs.Places.{sections_left_done}
use Rattle.dwp_elf_read.proofs.section.SectionsIterator.next.Goals as goal

pub returns-then-self-clause-steps : goal.returns-then-self-clause-steps
returns-then-self-clause-steps c = let e = sections_left_done c.args.self.now.file
    c.args.self.now.next c.if-self.true in (e, e)
