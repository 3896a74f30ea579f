use Rattle.dwp_dwarf.proofs.Values.{root_values_lie}
use Rattle.dwp_dwarf.proofs.laws.root_values_lie_in_the_unit.Goals as goal

pub returns : goal.returns
returns c = root_values_lie
