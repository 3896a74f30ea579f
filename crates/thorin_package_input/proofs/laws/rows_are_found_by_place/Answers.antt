use Rattle.thorin_package_input.proofs.Rows.{first_row}
use Rattle.thorin_package_input.proofs.laws.rows_are_found_by_place.Goals as goal

pub returns : goal.returns
returns c = first_row
