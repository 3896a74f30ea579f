use Rattle.thorin_strings.proofs.Remapping.{range_named}
use Rattle.{std.proofs.Common.length, thorin_package_input.proofs.ReadAlike.strings_again}
use Rattle.thorin_package_input.proofs.laws.rewritten_strings_are_read_alike.Goals as goal

pub returns : goal.returns
returns c = λ order encoding section bytes before rewritten after final table ok.
    strings_again order encoding section bytes before rewritten after final
    (range_named order encoding section bytes (length bytes) before (rewritten, after) table ok)
