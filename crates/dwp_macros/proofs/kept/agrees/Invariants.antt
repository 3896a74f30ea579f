use Rattle.dwp_macros.specs.Kept.{has_macros, kept_sections}
use Rattle.std.proofs.Common.{drop, length, ◌≡◌, ◌≤◌}
use Rattle.{dwp_elf_read.specs.View.elf, std.specs.List.list_any}
use Rattle.dwp_macros.proofs.kept.agrees.Given as goal

-- those behind agree
abbrev pub invariant-loop-left : goal.invariant-loop-left
invariant-loop-left l = record {
  inside : l.left ≤ length (elf l.old).sections;
  more : l.has_more ≡ list_any has_macros (drop l.left (elf l.old).sections);
  agree : drop l.left (elf l.new).sections ≡ kept_sections l.kept
      (drop l.left (elf l.old).sections);
}

abbrev pub decreases-loop-left : goal.decreases-loop-left
decreases-loop-left l = l.left
