use Rattle.{dwp_decompress.specs.Names.added_names, dwp_elf_read.specs.View.elf}
use Rattle.std.proofs.Common.{drop, ◌++◌, ◌≡◌}
use Rattle.dwp_decompress.proofs.sizes.added_names.Given as goal

-- those so far and those that are left are all
abbrev pub invariant-loop-i : goal.invariant-loop-i
invariant-loop-i l = l.added.items ++ added_names l.asked (drop l.i (elf l.file).sections)
    ≡ added_names l.asked (elf l.file).sections
