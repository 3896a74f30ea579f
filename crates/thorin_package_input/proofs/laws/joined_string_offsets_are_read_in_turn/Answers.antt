use Rattle.thorin_package_input.proofs.ReadAlike.{joined_read}
use Rattle.thorin_package_input.proofs.laws.joined_string_offsets_are_read_in_turn.Goals as goal

pub returns : goal.returns
returns c = λ order encoding strings first second n i old long. joined_read order encoding first
    second n old long strings i
