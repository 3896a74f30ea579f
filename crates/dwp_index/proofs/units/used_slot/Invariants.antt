use Rattle.{dwp_index.specs.Used.used_in, std.proofs.Common.◌≡◌}
use Rattle.dwp_index.proofs.units.used_slot.Given as goal

abbrev pub invariant-loop-slot : goal.invariant-loop-slot
invariant-loop-slot l = used_in l.index l.slot ≡ used_in l.index l.start
