use Rattle.thorin_check.specs.{Faults.ArePast, Faults.TellsRowsOf, Telling.so_far, Telling.Told}
use Rattle.thorin_check.proofs.tables.check_rows.Given as goal

-- the faults of the rows so far, and the slots that don't name the next one
abbrev pub invariant-loop-row : goal.invariant-loop-row
invariant-loop-row g l = record {
  told : Told (TellsRowsOf l.kind l.is_types l.row l.entries)
      (so_far (g.O.Write.contents l.initial.out) l.initial.faults)
      (so_far (g.O.Write.contents l.out) l.faults);
  past : ArePast l.is_types l.row l.entries l.from;
}
