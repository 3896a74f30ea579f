use Rattle.dwp_table.proofs.Tables.{finds_exactly, count_within, few_slots}
use Rattle.dwp_table.proofs.laws.look_up_finds_exactly.Goals as goal

pub returns : goal.returns
returns c = record { bound = count_within; exact = finds_exactly; few = few_slots }
