use Rattle.thorin_check.specs.Faults.{ArePast}
use Rattle.thorin_check.proofs.tables.is_named.Given as goal

-- no slot so far names a row from this one on
abbrev pub invariant-loop-i : goal.invariant-loop-i
invariant-loop-i l = ArePast l.is_types l.row l.entries l.i
