use Rattle.{dwp_dwarf.proofs.Tables.reads_specification, dwp_units.proofs.Readings.shorter}
use Rattle.dwp_dwarf.proofs.abbrev.after_specifications.Goals as goal

pub loop-specification-smaller : goal.loop-specification-smaller
loop-specification-smaller g c = shorter reads_specification _ _ c.in_ok-specification.ensures
