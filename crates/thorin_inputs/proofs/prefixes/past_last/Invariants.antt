use Rattle.thorin_inputs.proofs.Fronts.{From, Walked}
use Rattle.std.proofs.Common.{[], List, ℕ, ◌-◌}
use Rattle.std.specs.Borrow.{Bor}
use Rattle.thorin_inputs.proofs.prefixes.past_last.Given as goal

abbrev pub none : Bor (List ℕ)
none = record { ref_ptr = (0, 0); now = [] }

abbrev pub invariant-loop-place : goal.invariant-loop-place
invariant-loop-place l =
    Walked l.last l.count l.text (From l.last (l.count - 1) (none, none)) l.place

abbrev pub decreases-loop-place : goal.decreases-loop-place
decreases-loop-place l = l.place
