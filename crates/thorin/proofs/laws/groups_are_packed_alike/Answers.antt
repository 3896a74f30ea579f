use Rattle.thorin.proofs.Running.{means-all}
use Rattle.thorin.proofs.laws.groups_are_packed_alike.Goals as goal

pub returns : goal.returns
returns c = record { joined = means-all c.written_packages_mean_their_units.ensures }
