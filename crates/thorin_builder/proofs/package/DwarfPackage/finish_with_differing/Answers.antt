use Rattle.{thorin_builder.specs.BuilderView.building, thorin_join.specs.Join.IsPackageOnceWritten}
use Rattle.thorin_again.specs.OwnAccepted.{IsAcceptedByNewOnceWritten, IsAcceptedOnceWritten}
use Rattle.thorin_errors.specs.{Answers.Gives, declared.error.Error.Error}
use Rattle.thorin_join.proofs.{Files.finished-is, Terms.units_in}
use Rattle.thorin_join.specs.Builder.{finish_test, IsFinishedState, State}
use Rattle.thorin_again.proofs.Accepted.{own-all, own-by-new}
use Rattle.std.proofs.Common.{IfOk, Ok, Result, rules, ◌≡◌}
use Rattle.dwp_elf.specs.FileText.{Object as File}
use Rattle.thorin_builder.proofs.package.DwarfPackage.finish_with_differing.Goals as goal

-- what is so of what was finished, by a law
by-law : (P : State → File → Type 0) (r : Result File Error) (state : State)
    → ((file : File) → finish_test state ≡ Ok tt → IsFinishedState state file → P state file)
    → Gives (λ _. tt) r (finish_test state) → IfOk r (IsFinishedState state) → IfOk r (P state)
by-law P r state law tested finished = grind rules

pub finished_begun-requires : goal.finished_begun-requires
finished_begun-requires g c = rw (← c.self.view_is) at c.test_targets-tested.ensures

pub returns : goal.returns
returns g c =
    let state : State = (building c.self.inside).state in
    let file = c.finished_begun.result.0 in
    let refusal = c.finished_begun.ensures.refusal c.self.inside.own in
    let finished = c.finished_begun.ensures.finished c.self.inside.own in
    let is = c.self.invariant in
    record {
      refusal = rw (← c.self.view_is) refusal;
      finished = rw (← c.self.view_is) finished;
      packaged = rw (← c.self.view_is) (by-law (λ of. IsPackageOnceWritten (units_in of)) file
          state (λ file. finished-is state file is.1) refusal finished);
      accepted = rw (← c.self.view_is) (by-law IsAcceptedOnceWritten file state
          (λ file. own-all state file is.1 is.2 is.3) refusal finished);
      accepted_by_new = rw (← c.self.view_is) (by-law IsAcceptedByNewOnceWritten file state
          (λ file. own-by-new state file is.1 is.2 is.3) refusal finished);
      differing = search rules;
    }
