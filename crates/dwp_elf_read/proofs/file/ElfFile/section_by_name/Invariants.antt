use Rattle.std.proofs.Common.{find, ◌≡◌}
use Rattle.dwp_elf_read.specs.{Elf.is_named, View.sections_after}
use Rattle.dwp_elf_read.proofs.file.ElfFile.section_by_name.Given as goal

abbrev pub invariant-loop-i : goal.invariant-loop-i
invariant-loop-i l = find (is_named l.name) (sections_after l.self l.i) ≡ find (is_named l.name)
    (sections_after l.self 0)
