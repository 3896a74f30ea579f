use Rattle.std.proofs.Common.{refl, ◌∙◌}
use Rattle.dwp_elf_read.{proofs.Places.entries_more, specs.View.entries_left}
use Rattle.dwp_elf_read.proofs.relocation.Table.next_entry.Goals as goal

pub returns : goal.returns
unfolding entries_left
returns c = entries_more c.args.self.now c.if-self.false
    ∙ rw (c.entry_at-entry.ensures, c.size_of_entry.ensures) refl
