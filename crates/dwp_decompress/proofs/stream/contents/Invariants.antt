use Rattle.{dwp_decompress.proofs.Sections.behind, dwp_elf_read.specs.View.elf}
use Rattle.dwp_decompress.specs.Result.{contents_of, plain_contents}
use Rattle.std.proofs.Common.{drop, ◌≡◌}
use Rattle.dwp_decompress.proofs.stream.contents.Given as goal

-- those so far and those that are left are all
abbrev pub invariant-loop-i : goal.invariant-loop-i
invariant-loop-i l = behind (plain_contents l.contents.items) (contents_of l.asked l.class l.order
    (drop l.i (elf l.file).sections)) ≡ contents_of l.asked l.class l.order (elf l.file).sections
