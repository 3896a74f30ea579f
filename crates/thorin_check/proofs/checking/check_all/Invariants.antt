use Rattle.thorin_check.specs.{Checking.TellsExecutables, Telling.so_far, Telling.Told}
use Rattle.std.proofs.Common.{take}
use Rattle.thorin_check.proofs.checking.check_all.Given as goal

-- the faults of the executables so far
abbrev pub invariant-loop-i : goal.invariant-loop-i
invariant-loop-i g l = Told
    (TellsExecutables (g.F.FileReader.offer l.files) l.reading l.indexed.pack.now
    (take l.i l.executables)) (so_far (g.O.Write.contents l.initial.out) l.initial.faults)
    (so_far (g.O.Write.contents l.out) l.faults)
