use Rattle.thorin.proofs.Running.{groups-defined, groups-joined}
use Rattle.thorin.proofs.laws.groups_are_joined_alike.Goals as goal

pub returns : goal.returns
returns c = record { defined = groups-defined; joined = groups-joined }
