use Rattle.thorin_package_input.proofs.Rows.{HasFrom}
use Rattle.thorin_package_input.proofs.row_places.RowPlaces.new.Given as goal

abbrev pub invariant-loop-number : goal.invariant-loop-number
invariant-loop-number l = HasFrom l.rows l.index l.section l.number
