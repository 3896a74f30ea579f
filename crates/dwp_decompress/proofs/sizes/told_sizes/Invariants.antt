use Rattle.dwp_decompress.{proofs.Sections.plus, specs.Headers.told_sizes}
use Rattle.{dwp_elf_read.specs.View.elf, std.proofs.Common.drop, std.proofs.Common.◌≡◌}
use Rattle.dwp_decompress.proofs.sizes.told_sizes.Given as goal

-- those so far and those that are left are all
abbrev pub invariant-loop-i : goal.invariant-loop-i
invariant-loop-i l = plus l.told (told_sizes l.asked l.class l.order
    (drop l.i (elf l.file).sections)) ≡ told_sizes l.asked l.class l.order (elf l.file).sections
