use Rattle.std.proofs.Common.{Err, false, Ok, refl, rules, ◌≡◌}
use Rattle.thorin_cli.specs.{Doing.DoesPacking, Programs.state_of, Programs.system}
use Rattle.thorin_cli.proofs.{Told.noted, Told.unpacked, program.ProgramCommands.pack.Given.Over}
use Rattle.thorin_cli.proofs.program.ProgramCommands.pack.Goals.{After-end}
use Rattle.thorin_cli.proofs.program.ProgramCommands.pack.Goals as goal

-- what the call that packs did
did : (g : Over) (c : goal.After-end g) → (c.args.arguments.verifies_only ≡ false)
    × (c.args.arguments.lists_missing ≡ false)
    × DoesPacking (system g.F.FileSystem.offer g.F.FileSystem.known g.F.FileSystem.begun
    g.O.Write.contents g.E.Write.contents (g.R.FileReader.offer c.args.self.now.reader.now))
    c.packing_of-packing.result (state_of c.args.self.now) (record {
      files = c.pack-answer.new.files;
      out = c.pack-answer.new.out;
      err = c.pack-answer.new.err;
    }) c.pack-answer.result
did g c = (
  search rules,
  search rules,
  first_of (assumption c.pack-answer.ensures, search (rules, c.pack-answer.ensures)),
)

pub returns-in-Ok-eq0 : goal.returns-in-Ok-eq0
returns-in-Ok-eq0 g c =
    let did = did g (goal.at.returns-in-Ok-eq0 g c).After-end in
    let none : c.pack-answer.result ≡ Ok 0 = search (rules, c.in-Ok-eq0) in (
      (refl, refl, refl),
      rw (did.0, did.1) (record {
        answer = Ok 0;
        has = refl;
        done = rw (c.packing_of-packing.ensures, none) at did.2;
      }),
    )

pub returns-in-Ok-answer : goal.returns-in-Ok-answer
returns-in-Ok-answer g c =
    let did = did g (goal.at.returns-in-Ok-answer g c).After-end in
    let its = system g.F.FileSystem.offer g.F.FileSystem.known g.F.FileSystem.begun
    g.O.Write.contents g.E.Write.contents (g.R.FileReader.offer c.args.self.now.reader.now) in (
      (refl, refl, refl),
      rw (did.0, did.1) (record {
        answer = Ok c.in-Ok-answer.status;
        has = refl;
        done = unpacked its c.pack-answer.new.files c.pack-answer.new.out c.pack-answer.new.err _
            (λ h. h) _ (state_of c.args.self.now) (Ok c.in-Ok-answer.status)
            (search (rules, c.in-Ok-answer.status-test)) (λ _. c.note_refused.ensures)
            (rw (c.packing_of-packing.ensures, c.in-Ok-answer.is) at did.2);
      }),
    )

pub returns-in-Err-answer : goal.returns-in-Err-answer
returns-in-Err-answer g c =
    let did = did g (goal.at.returns-in-Err-answer g c).After-end in
    let its = system g.F.FileSystem.offer g.F.FileSystem.known g.F.FileSystem.begun
    g.O.Write.contents g.E.Write.contents (g.R.FileReader.offer c.args.self.now.reader.now) in
    let kept = c.report-status.ensures.kept in
    let after = c.report-status.new.self in (
      (rw kept.0 refl, rw kept.1 refl, c.report-status.ensures.place),
      rw (did.0, did.1) (record {
        answer = Err c.in-Err-answer.failure;
        has = noted its after.files.now after.out.now after.err.now _ c.note_packing.ensures
            (λ h. h) c.in-Err-answer.failure _ c.report-status.ensures.has;
        done = rw (kept.0, kept.1) (unpacked its c.pack-answer.new.files c.pack-answer.new.out
            c.pack-answer.new.err _ c.report-status.ensures.once _ (state_of c.args.self.now)
            (Err c.in-Err-answer.failure) (λ is. absurd cc) (λ is. absurd cc)
            (rw (c.packing_of-packing.ensures, c.in-Err-answer.is) at did.2));
      }),
    )
