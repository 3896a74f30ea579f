use Rattle.std.proofs.Common.{drop, find, ◌≡◌}
use Rattle.dwp_elf_read.specs.{Elf.holds, View.elf}
use Rattle.thorin_inputs.proofs.overlaps.first_size.Given as goal

-- the first of those that are left is the first of all
abbrev pub invariant-loop-i : goal.invariant-loop-i
invariant-loop-i l = find (holds l.kind) (drop l.i (elf l.file).sections) ≡ find (holds l.kind)
    (elf l.file).sections
