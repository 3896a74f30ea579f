use Rattle.dwp_macros.specs.Kept.{has_macros, is_index, lose}
use Rattle.std.proofs.Common.{drop, length, ◌≡◌, ◌≤◌}
use Rattle.{dwp_elf_read.specs.View.elf, std.specs.List.list_any}
use Rattle.dwp_macros.proofs.kept.is_changed.Given as goal

-- what was found behind
abbrev pub invariant-loop-left : goal.invariant-loop-left
invariant-loop-left l = record {
  inside : l.left ≤ length (elf l.file).sections;
  more : l.has_more ≡ list_any has_macros (drop l.left (elf l.file).sections);
  lose : l.lose ≡ lose l.kept (drop l.left (elf l.file).sections);
  indexed : l.indexed ≡ list_any is_index (drop l.left (elf l.file).sections);
}

abbrev pub decreases-loop-left : goal.decreases-loop-left
decreases-loop-left l = l.left
