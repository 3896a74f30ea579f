use Rattle.{dwp_elf_read.specs.View.relocations_left, std.proofs.Common.◌-◌, std.proofs.Common.◌≡◌}
use Rattle.dwp_elf_read.proofs.relocation.RelocationsIterator.next.Given as goal

abbrev pub invariant-loop-entry : goal.invariant-loop-entry
invariant-loop-entry l = relocations_left l.self ≡ relocations_left l.initial.self

abbrev pub decreases-loop-entry : goal.decreases-loop-entry
decreases-loop-entry l = l.self.file.count - l.self.section
