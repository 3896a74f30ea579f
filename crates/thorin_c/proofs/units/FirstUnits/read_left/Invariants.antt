use Rattle.{std.proofs.Common.length, thorin_c.proofs.Lists.GoesOn}
use Rattle.thorin_c.proofs.units.FirstUnits.read_left.Given as goal

abbrev pub decreases-loop-unit : goal.decreases-loop-unit
decreases-loop-unit l = length l.units.listed.0

-- the units so far were read, and the others are left
abbrev pub invariant-loop-unit : goal.invariant-loop-unit
invariant-loop-unit l = GoesOn l.room l.initial.units.listed l.units.listed l.self
