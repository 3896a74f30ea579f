use Rattle.dwp_decompress.specs.Result.{plain_contents, result_sections}
use Rattle.{dwp_elf_read.specs.View.elf, std.proofs.Common.drop, std.proofs.Common.◌≡◌}
use Rattle.dwp_decompress.proofs.agree.Expected.agrees.Given as goal

-- if those that are left agree, all do
abbrev pub invariant-loop-i : goal.invariant-loop-i
invariant-loop-i l = drop l.i (elf l.new).sections ≡ result_sections l.self.names l.self.added.now
    (drop l.i (elf l.old).sections) (drop l.i (plain_contents l.self.contents.now.items))
    → (elf l.new).sections ≡ result_sections l.self.names l.self.added.now (elf l.old).sections
    (plain_contents l.self.contents.now.items)
