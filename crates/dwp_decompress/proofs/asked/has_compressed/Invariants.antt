use Rattle.std.{proofs.Common.drop, specs.List.list_any, proofs.Common.◌≡◌}
use Rattle.{dwp_decompress.specs.Compressed.is_compressed, dwp_elf_read.specs.View.elf}
use Rattle.dwp_decompress.proofs.asked.has_compressed.Given as goal

abbrev pub invariant-loop-i : goal.invariant-loop-i
invariant-loop-i l = list_any (is_compressed l.asked) (drop l.i (elf l.file).sections) ≡ list_any
    (is_compressed l.asked) (elf l.file).sections
