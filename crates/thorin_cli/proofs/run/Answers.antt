use Rattle.std.proofs.Common.{ap, inr, map, refl, rules}
use Rattle.{std.specs.Prelude.IsSome, thorin_cli.proofs.Ran.ran}
use Rattle.{thorin_arguments.specs.Asked.words_in, thorin_terminal.specs.Watching.failure_of}
use Rattle.{thorin_cli.proofs.Told.unread, thorin_print.specs.Watching.LacksLine}
use Rattle.thorin_cli.proofs.run.Goals as goal

pub returns-in-Ok : goal.returns-in-Ok
returns-in-Ok g c = record {
  did = ran _ _ _ c.args.facts.on_terminal c.named_program.result.0.now
      (map g.S.AsStr.text c.named_program.result.1.now) c.in-Ok.ensures.0
      (words_in c.as_slice.result.now) _ _
      (record {
        files = c.run.new.commands.files.now;
        out = c.run.new.commands.out.now;
        err = c.run.new.commands.err.now;
      }) c.run.result _ _ _ _ _ _ _ c.named_program.ensures (search (rules, c.in-Ok.ensures.1))
      c.in-Ok.ensures.2 (search rules) c.run.ensures.called (search rules) (search rules)
      (search rules);
}

pub returns-in-Err : goal.returns-in-Err
returns-in-Err g c = record {
  did = inr (
    refl,
    (refl, refl),
    unread (record {
      offer = g.F.FileSystem.offer;
      known = g.F.FileSystem.known;
      begun = g.F.FileSystem.begun;
      contents = λ out. g.O.Write.contents out.out;
      failed = λ out. IsSome (failure_of out);
      told = λ err. g.E.Write.contents err.writer;
      untold = λ err. LacksLine err;
      read = g.R.FileReader.offer c.args.readers.files.now;
    }) c.args.files.now c.args.out.now c.args.err.now _ c.refuse_response.new.err
        c.note_response.ensures (λ h. h) (g.P.ResponseFiles.offer c.args.readers.responses.now)
        (g.P.ResponseFiles.fails c.args.readers.responses.now)
        (map g.S.AsStr.text c.named_program.result.1.now) _ c.in-Err.error c.in-Err.ensures
        (ap (λ line. line.1) c.named_program.ensures) c.refuse_response.ensures,
  );
}
