use Rattle.thorin_join.{proofs.Terms.InProgress, proofs.Terms.with_new_units, specs.State.Extends}
use Rattle.{thorin_builder.specs.StateView.in_progress_of, thorin_input.specs.UnitView.new_of}
use Rattle.thorin_input.proofs.NewUnitLemmas.{AreNumbered, with_rows}
use Rattle.std.proofs.Common.{◌≡◌}
use Rattle.thorin_builder.proofs.in_progress.InProgressDwarfPackage.append_units.Given as goal

-- the package with the units that are left is the one with all; each of these has its row; and
-- nothing was lost
abbrev pub invariant-loop-name : goal.invariant-loop-name
invariant-loop-name l = record {
  units : with_new_units (in_progress_of l.self) (with_rows l.new.rows.items l.name-iterator)
      ≡ with_new_units (in_progress_of l.fn.self) (new_of l.new).units;
  numbered : AreNumbered l.new.rows.items l.name-iterator;
  extends : (before : InProgress) → Extends before (in_progress_of l.fn.self)
      → Extends before (in_progress_of l.self);
}
