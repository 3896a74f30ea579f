use Rattle.dwp_table.proofs.Numbers.{visits_each_once}
use Rattle.dwp_table.proofs.laws.odd_step_visits_every_slot.Goals as goal

pub returns : goal.returns
returns c = visits_each_once
