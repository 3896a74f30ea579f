use Rattle.{dwp_decompress.specs.Sizes.compressed_size, dwp_elf_read.specs.View.elf}
use Rattle.std.proofs.Common.{drop, nat_lt, ◌≡◌}
use Rattle.dwp_decompress.proofs.sizes.have_more.Given as goal

-- those that are left have more than the room that is left
abbrev pub invariant-loop-i : goal.invariant-loop-i
invariant-loop-i l = nat_lt l.left (compressed_size l.asked (drop l.i (elf l.file).sections))
    ≡ nat_lt l.room (compressed_size l.asked (elf l.file).sections)
