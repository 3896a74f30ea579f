use Rattle.thorin_package_input.proofs.Rows.{first_found, no_row}
use Rattle.thorin_package_input.proofs.laws.every_row_is_found_by_place.Goals as goal

pub returns : goal.returns
returns c = record { first = first_found; none = no_row }
