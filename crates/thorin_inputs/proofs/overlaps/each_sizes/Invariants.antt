use Rattle.{dwp_elf_read.specs.View.elf, thorin_inputs.specs.Overlaps.each_size}
use Rattle.std.proofs.Common.{drop, min, sum_by, ◌+◌, ◌-◌, ◌^◌, ◌≡◌, ◌≤◌}
use Rattle.thorin_inputs.proofs.overlaps.each_sizes.Given as goal

-- those so far and those that are left are all
abbrev pub invariant-loop-i : goal.invariant-loop-i
invariant-loop-i l = record {
  fits : l.size ≤ 2 ^ 64 - 1;
  all : min (l.size + sum_by each_size (drop l.i (elf l.file).sections)) (2 ^ 64 - 1) ≡ min
      (sum_by each_size (elf l.file).sections) (2 ^ 64 - 1);
}
