use Rattle.dwp_table.proofs.Placing.{empty_table}
use Rattle.dwp_table.proofs.laws.unused_slots_are_a_table.Goals as goal

pub returns : goal.returns
returns c = empty_table
