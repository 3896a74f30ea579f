use Rattle.{dwp_elf.specs.FileText.Object as File, thorin_builder.specs.StateView.in_progress_of}
use Rattle.dwp_table.specs.declared.object.DebugTypeSignature.{DebugTypeSignature}
use Rattle.std.proofs.Common.{IfOk, map, OnOk, refl, Result, rules, Some, ◌≡◌}
use Rattle.thorin_join.specs.Builder.{IsFinished, IsFinishedState, State}
use Rattle.thorin_join.proofs.Terms.{IdentifiersFit, InProgress}
use Rattle.thorin_errors.specs.declared.error.Error.{Error}
use Rattle.thorin_builder.proofs.package.finished_begun.Goals as goal

-- what was finished of the package of a state
of-state : (r : Result File Error) (state : State) (made : InProgress) → state.begun ≡ Some made
    → IfOk r (IsFinished made) → OnOk r (IdentifiersFit made.rows) → IfOk r (IsFinishedState state)
of-state r state made begun is fit = grind (rules, begun)

pub returns-after-tested-clause-finished : goal.returns-after-tested-clause-finished
returns-after-tested-clause-finished c own = elim c.match-tested.branch [
  | goal.in-Ok w ↦
      let held = c.in-Some.«package» in
      rw w.file-is (of-state w.finished-file.result _
      (in_progress_of held) (rw c.in-Some.is refl) (w.finished-file.ensures.finished (map
      (λ (s : DebugTypeSignature). s.0) held.differing.items)) w.finished-file.ensures.identifiers)
  | goal.in-Err w ↦ rw w.file-is tt
]
