use Rattle.{std.proofs.Common.length, thorin_check.proofs.Checked.GoesOn}
use Rattle.thorin_check.specs.Telling.{so_far, Told}
use Rattle.thorin_check.proofs.executables.check_listed.Given as goal

abbrev pub decreases-loop-unit : goal.decreases-loop-unit
decreases-loop-unit g l = length l.units.listed.0

-- what was told so far, and what is left to tell
abbrev pub invariant-loop-unit : goal.invariant-loop-unit
invariant-loop-unit g l = Told
    (GoesOn l.pack l.executable l.room l.initial.units.listed l.is_first l.left l.units.listed)
    (so_far (g.O.Write.contents l.initial.out) l.initial.faults)
    (so_far (g.O.Write.contents l.out) l.faults)
