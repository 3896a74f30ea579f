use Rattle.std.proofs.Common.{ap, None, refl, Some, sym, ◌∙◌}
use Rattle.thorin_arguments.{proofs.Matched.by_name, specs.Asked.words_in}
use Rattle.thorin_arguments.proofs.reading.run.Goals as goal

pub returns-in-Ok-completed : goal.returns-in-Ok-completed
returns-in-Ok-completed g c = record {
  called = by_name g.C.Commands.does (Some c.in-Some.name.now) (words_in c.args.words.now)
      c.args.commands.now c.run_as.new.commands c.run_as.result c.in-Some.ensures
      (c.run_as.ensures (words_in c.args.words.now) (λ app line.
      c.in-Ok-completed.ensures app line ∙ ap words_in (sym c.as_slice.ensures.value)));
}

pub returns : goal.returns
returns g c = record {
  called = by_name g.C.Commands.does None (words_in c.args.words.now) c.args.commands.now
      c.run_as-in-None.new.commands c.run_as-in-None.result c.in-None.ensures
      (c.run_as-in-None.ensures (words_in c.args.words.now) (λ app line. refl));
}
