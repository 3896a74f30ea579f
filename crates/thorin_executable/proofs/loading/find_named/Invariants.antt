use Rattle.std.proofs.Common.{drop, find, ◌≡◌}
use Rattle.{dwp_elf_read.specs.View.elf, thorin_executable.specs.Sections.is_used}
use Rattle.thorin_executable.proofs.loading.find_named.Given as goal

-- the first of those that are left is the first of all
abbrev pub invariant-loop-i : goal.invariant-loop-i
invariant-loop-i l = find (is_used l.name) (drop l.i (elf l.file).sections) ≡ find (is_used l.name)
    (elf l.file).sections
