use Rattle.thorin_builder.specs.Taking.{accepted_of, Outcome, PassesOver, TakesReferredFile}
use Rattle.thorin_builder.proofs.package.DwarfPackage.add_referred.Goals.{In-Err-Failed-Io}
use Rattle.{indexmap.proofs.SearchLemmas.on_ok_of, thorin_builder.specs.Repeated.AreTaken}
use Rattle.thorin_builder.proofs.Inputs.{are-taken-later, on-ok-taken, taken-remembered}
use Rattle.thorin_errors.specs.declared.error.InputError.TheVariants.{Io, Memory}
use Rattle.thorin_builder.proofs.package.DwarfPackage.add_referred.Given.{Over}
use Rattle.std.proofs.Common.{Err, Ok, refl, rules, []}
use Rattle.std.specs.Path.{path_bytes}
use Rattle.thorin_builder.proofs.package.DwarfPackage.add_referred.Goals as goal

pub returns-in-Ok-clause-taken : goal.returns-in-Ok-clause-taken
returns-in-Ok-clause-taken g c = rw c.tried.ensures.outcome (record {
  read = Ok c.in-Ok.bytes.now;
  within = rw c.new.ensures at c.in-Ok.ensures.read;
  accepted = accepted_of c.add_and_remember.result c.in-Ok.bytes.now;
  taken = (c.add_and_remember.ensures.takes, refl);
})

pub returns-in-Ok-clause-known : goal.returns-in-Ok-clause-known
returns-in-Ok-clause-known g c =
    let offer = g.R.InputReader.offer c.args.reader.now in
    let added = c.add_and_remember in
    on-ok-taken c.tried.result added.result c.tried.ensures.outcome
    (AreTaken offer added.new.taken.entries added.new.self.state.begun)
    (on_ok_of added.result _ _ _ (λ x later remembered. taken-remembered offer
    c.args.known.now.taken.entries added.new.taken.entries added.new.self.state.begun
    c.args.named.path.now c.in-Ok.bytes.now (rw c.new.ensures at c.in-Ok.ensures.read)
    (are-taken-later offer c.args.known.now.taken.entries c.args.self.now.state.begun
    added.new.self.state.begun later c.requires.known) remembered)
    added.ensures.later added.ensures.remembers)

-- what comes of an object that can't be read
failed : (g : Over) (c : goal.In-Err-Failed-Io g) (outcome : Outcome) → PassesOver c.args.missing
    c.in-Err-Failed-Io.e outcome → TakesReferredFile (g.R.InputReader.offer c.args.reader.now
    c.args.named.path.now) c.args.missing c.args.self.now.state outcome c.args.self.now.state
failed g c outcome passes =
    let e = c.in-Err-Failed-Io in
    let fails : g.R.InputReader.offer c.args.reader.now (path_bytes c.new.result) (Err e.e) =
    search (rules, e.ensures.read, e.e-is, e.field-0-is, e.field-0-0-is) in
    record {
      read = Err (Io c.in-Err-Failed-Io.e);
      within = rw c.new.ensures at fails;
      accepted = [];
      taken = (passes, (refl, refl));
    }

pub returns-in-Skip-clause-taken : goal.returns-in-Skip-clause-taken
returns-in-Skip-clause-taken g c =
    failed g (goal.at.returns-in-Skip-clause-taken g c).In-Err-Failed-Io _ (rw c.in-Skip.is refl)

pub returns-in-Error-clause-taken : goal.returns-in-Error-clause-taken
returns-in-Error-clause-taken g c =
    failed g (goal.at.returns-in-Error-clause-taken g c).In-Err-Failed-Io _ (rw c.in-Error.is refl)

pub returns-in-Err-Failed-Memory-clause-taken : goal.returns-in-Err-Failed-Memory-clause-taken
returns-in-Err-Failed-Memory-clause-taken g c =
    record { read = Err Memory; within = tt; accepted = []; taken = (refl, (refl, refl)) }

pub returns-in-Err-Declined-clause-taken : goal.returns-in-Err-Declined-clause-taken
returns-in-Err-Declined-clause-taken g c =
    record { read = Err Memory; within = tt; accepted = []; taken = (refl, (refl, refl)) }
