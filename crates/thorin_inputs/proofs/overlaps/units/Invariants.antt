use Rattle.std.proofs.Common.{drop, find, ◌≡◌}
use Rattle.dwp_base.specs.declared.section.SectionKind.TheVariants.{Info}
use Rattle.dwp_elf_read.specs.{Elf.is_of, View.elf}
use Rattle.thorin_inputs.proofs.overlaps.units.Given as goal

-- the first of those that are left is the first of all
abbrev pub invariant-loop-i : goal.invariant-loop-i
invariant-loop-i l = find (is_of Info) (drop l.i (elf l.file).sections) ≡ find (is_of Info)
    (elf l.file).sections
