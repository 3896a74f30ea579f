use Rattle.thorin_builder.specs.{BuilderView.building, StateView.begun_of, StateView.in_progress_of}
use Rattle.{thorin_builder.proofs.Inputs.added-known, thorin_join.specs.Builder.State}
use Rattle.thorin_again.proofs.Lists.{taken-holds, taken-plain}
use Rattle.std.proofs.Common.{ap, None, rules, Some, ◌≡◌}
use Rattle.thorin_builder.proofs.package.DwarfPackage.add_again.Goals as goal

pub invariant_of-self-in-Some : goal.invariant_of-self-in-Some
invariant_of-self-in-Some g c =
    let bytes = c.requires.known.0 in
    let old : State = (building c.self.inside).state in
    let now = in_progress_of c.add_repeated.new.self in
    let known = rw (← c.self.view_is) at c.requires.known.1 in
    let step = added-known bytes c.args.again.now old (in_progress_of c.in-Some.package) now
    (ap begun_of c.in-Some.is) known c.in_ok-add_repeated.ensures.added in
    let new : State = record old { begun = Some now; own = None } in (
      c.self.invariant.0,
      c.inputs_are_joined.ensures.sound bytes old.begun (Some now) c.self.invariant.1 step.0,
      taken-holds bytes old new c.self.invariant.1 c.self.invariant.2 step.1,
      taken-plain bytes old new c.self.invariant.1 c.self.invariant.3 step.1,
    )

pub returns-clause-later : goal.returns-clause-later
returns-clause-later g c =
    let old = c.args.self.now.state in
    elim c.match-self.branch [
      | goal.in-Some+in_ok-add_repeated w ↦
          rw w.self-is (added-known c.requires.known.0 c.args.again.now old
          (in_progress_of w.in-Some.package) (in_progress_of w.add_repeated.new.self)
          (search (rules, c.self.view_is, w.in-Some.is)) c.requires.known.1
          w.in_ok-add_repeated.ensures.added).2
      | goal.in_default w ↦
          let none : old.begun ≡ None = search (rules, c.self.view_is, w.in_default) in
          rw none tt
    ]
