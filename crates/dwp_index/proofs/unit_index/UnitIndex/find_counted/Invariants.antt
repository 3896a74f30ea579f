use Rattle.dwp_index.proofs.Indexes.{IsLooking}
use Rattle.dwp_index.proofs.unit_index.UnitIndex.find_counted.Given as goal

abbrev pub invariant-loop-looked : goal.invariant-loop-looked
invariant-loop-looked l = IsLooking l.self.signatures l.self.rows l.identifier l.looked l.at
