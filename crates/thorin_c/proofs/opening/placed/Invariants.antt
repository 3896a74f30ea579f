use Rattle.{dwp_base.proofs.KindsRead.ReadBelow, thorin_c.proofs.Files.IsPlaceOf}
use Rattle.dwp_elf_read.specs.View.{bytes_of, elf}
use Rattle.std.proofs.Common.{length, ◌≡◌}
use Rattle.thorin_c.proofs.opening.placed.Given as goal

abbrev pub invariant-loop-kind : goal.invariant-loop-kind
invariant-loop-kind l =
    (length l.sections ≡ 13)
    × ReadBelow (IsPlaceOf (elf l.file).sections (bytes_of l.file)) l.sections l.kind-index
