use Rattle.dwp_index.proofs.Packages.{absent_unit, no_index, present_unit}
use Rattle.dwp_index.proofs.laws.packages_find_exactly.Goals as goal

pub returns : goal.returns
returns c = record { present = present_unit; absent = absent_unit; no_index = no_index }
