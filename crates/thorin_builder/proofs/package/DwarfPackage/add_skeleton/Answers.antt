use Rattle.thorin_builder.proofs.package.DwarfPackage.add_skeleton.Goals.{In-Some, In_ok-add_target}
use Rattle.thorin_builder.proofs.Inputs.{are-taken-later, on-ok-taken, taken-found, target-kept}
use Rattle.thorin_builder.specs.{Repeated.AreTaken, Repeated.IsTaken, Taking.TakesSkeleton}
use Rattle.thorin_builder.specs.Taking.{accepted_of, came, Outcome, TakesReferredFile}
use Rattle.thorin_errors.specs.declared.error.InputError.TheVariants.{Io, Memory}
use Rattle.thorin_builder.proofs.package.DwarfPackage.add_skeleton.Given.{Over}
use Rattle.std.proofs.Common.{Err, inl, inr, List, Ok, refl, rules, ℕ, []}
use Rattle.std.proofs.lemmas.Result.{err_from_is_err_and, on_ok_weaker}
use Rattle.thorin_join.specs.Builder.{State}
use Rattle.thorin_builder.proofs.package.DwarfPackage.add_skeleton.Goals as goal

pub returns-in_err-add_target-clause-taken : goal.returns-in_err-add_target-clause-taken
returns-in_err-add_target-clause-taken g c =
    let refused = c.in_err-add_target.ensures.refused in
    let p = err_from_is_err_and c.from_residual.result c.from_residual.ensures.1 in
    ([], inr (inr (rw (p.1, p.2, refused.0) refl, (refused.1, refl))))

-- what comes of the object, once the unit is among the targets
took : (g : Over) (c : goal.In_ok-add_target g) (outcome : Outcome) (new : State)
    → TakesReferredFile (g.R.InputReader.offer c.args.reader.now c.args.named.path.now)
    c.args.missing c.add_target.new.self.state outcome new → (accepted : List (List ℕ))
    × TakesSkeleton (g.R.InputReader.offer c.args.reader.now) c.args.missing
    (c.args.named.target, c.args.named.path.now) c.args.self.now.state (came outcome new accepted)
took g c outcome new file =
    let moved = rw c.in_ok-add_target.ensures.target at file in (
      moved.accepted,
      inr (inl (record {
        absent = search (rules, c.is_there.ensures, c.if-is_there);
        file = moved;
        accepted_is = refl;
      })),
    )

pub returns-then-known-clause-taken : goal.returns-then-known-clause-taken
returns-then-known-clause-taken g c =
    let can = c.requires.unread (search (rules, c.if-known)) in
    took g (goal.at.returns-then-known-clause-taken g c).In_ok-add_target _ _ (record {
      read = Err (Io can.cause);
      within = can.fails;
      accepted = [];
      taken = (rw can.skips refl, (refl, refl));
    })

-- what is known of the object
found : (g : Over) (c : goal.In-Some g) → IsTaken (g.R.InputReader.offer
    c.args.reader.now c.args.named.path.now) c.in-Some.again.now c.add_target.new.self.state.begun
found g c = taken-found (g.R.InputReader.offer c.args.reader.now)
    c.args.known.now.taken.entries c.add_target.new.self.state.begun c.args.named.path.now
    c.in-Some.again.now (rw (← target-kept c.args.named.target c.args.self.now.state
    c.add_target.new.self.state c.in_ok-add_target.ensures.target) c.requires.known)
    (search (rules, c.get.ensures.value, c.in-Some.is))

pub add_again-requires : goal.add_again-requires
add_again-requires g c =
    let found = found g (goal.at.add_again-requires g c).In-Some in
    record { known = (found.bytes, found.adds) }

pub returns-in-Err-clause-taken : goal.returns-in-Err-clause-taken
returns-in-Err-clause-taken g c = took g (goal.at.returns-in-Err-clause-taken g c).In_ok-add_target
    _ _ (record { read = Err Memory; within = tt; accepted = []; taken = (refl, (refl, refl)) })

pub returns-in-Ok-clause-taken : goal.returns-in-Ok-clause-taken
returns-in-Ok-clause-taken g c =
    let found = found g (goal.at.returns-in-Ok-clause-taken g c).In-Some in
    rw c.tried.ensures.outcome
    (took g (goal.at.returns-in-Ok-clause-taken g c).In_ok-add_target _ _ (record {
      read = Ok found.bytes;
      within = found.may;
      accepted = accepted_of c.add_again.result found.bytes;
      taken = (c.add_again.ensures.takes found.bytes found.adds, refl);
    }))

pub returns-in-Ok-clause-known : goal.returns-in-Ok-clause-known
returns-in-Ok-clause-known g c =
    let offer = g.R.InputReader.offer c.args.reader.now in
    let entries = c.args.known.now.taken.entries in
    on-ok-taken c.tried.result c.add_again.result c.tried.ensures.outcome (AreTaken
    offer entries c.add_again.new.self.state.begun) (on_ok_weaker c.add_again.result (λ later.
    are-taken-later offer entries c.add_target.new.self.state.begun c.add_again.new.self.state.begun
    later (rw (← target-kept c.args.named.target c.args.self.now.state c.add_target.new.self.state
    c.in_ok-add_target.ensures.target) c.requires.known)) c.add_again.ensures.later)

pub returns-in-Err-clause-declined : goal.returns-in-Err-clause-declined
returns-in-Err-clause-declined g c = rw (c.repetition.ensures, c.new.ensures) at c.in-Err.ensures

pub returns-in-None-clause-taken : goal.returns-in-None-clause-taken
returns-in-None-clause-taken g c = took g
    (goal.at.returns-in-None-clause-taken g c).In_ok-add_target _ _ c.add_referred.ensures.taken
