use Rattle.thorin_check.{proofs.Told.TellsFirst, specs.Telling.so_far, specs.Telling.Told}
use Rattle.thorin_check.proofs.strings.check_strings.Given as goal

-- the faults of the units so far
abbrev pub invariant-loop-i : goal.invariant-loop-i
invariant-loop-i g l = Told (TellsFirst l.pack l.listed l.i l.before)
    (so_far (g.O.Write.contents l.initial.out) l.initial.faults)
    (so_far (g.O.Write.contents l.out) l.faults)
