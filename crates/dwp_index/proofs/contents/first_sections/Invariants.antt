use Rattle.{dwp_base.specs.declared.section.SectionKind.SectionKind, dwp_elf_read.specs.View.elf}
use Rattle.dwp_index.{proofs.Packages.IsMet, specs.Firsts.found_in}
use Rattle.dwp_index.proofs.contents.first_sections.Given as goal

-- of each kind the first of the sections so far was met
abbrev pub invariant-loop-i : goal.invariant-loop-i
invariant-loop-i l = (kind : SectionKind)
    → IsMet kind (elf l.file).sections l.i (found_in l.firsts kind)
