use Rattle.std.proofs.Common.{arith, sym, true, ◌+◌, ◌∙◌, ◌≡◌}
use Rattle.dwp_elf_read.specs.{Relocation.relocates, View.section}
use Rattle.dwp_elf_read.proofs.Places.{left_done, left_entered, others}
use Rattle.dwp_elf_read.proofs.relocation.Relocations.pass_section.Goals as goal

pub returns-in-Err-clause-error : goal.returns-in-Err-clause-error
unfolding relocates
returns-in-Err-clause-error c =
    let it = c.args.self.now in
    let enters : relocates it.target (section c.section_at-section.result) ≡ true = grind arith in
    left_entered it _ c.requires.table c.requires.next c.section_at-section.ensures.value enters
    ∙ sym (c.in-Err.ensures (others it (it.section + 1)))

pub returns-in-Err-clause-end : goal.returns-in-Err-clause-end
returns-in-Err-clause-end c =
    let it = c.args.self.now in
    left_done (record it { section = it.file.count }) c.requires.table (omega arith)
