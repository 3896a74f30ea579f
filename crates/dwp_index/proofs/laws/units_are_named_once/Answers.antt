use Rattle.dwp_index.proofs.Indexes.{entries_once, slots_once}
use Rattle.dwp_index.proofs.laws.units_are_named_once.Goals as goal

pub returns : goal.returns
returns c = record { index = slots_once; «package» = entries_once }
