use Rattle.thorin_commands.{proofs.Lines.followed, specs.Cause.refusal_text}
use Rattle.thorin_commands.proofs.telling.tell_why.Goals as goal

pub returns-clause-told : goal.returns-clause-told
returns-clause-told g c = followed g.E.LineOutput.contents c.match-why.err c.put_notes.new.err
    (refusal_text c.args.why.now)
    (elim c.match-why.branch [
      | goal.in-Failed+in_ok-print_error-in-Failed w ↦
          rw (w.err-is, w.in-Failed.is) w.in_ok-print_error-in-Failed.ensures.told
      | goal.in-Declined+in_ok-put_error-in-Declined w ↦ rw (w.err-is, w.in-Declined.is)
          (rw w.error.ensures at w.in_ok-put_error-in-Declined.ensures.told)
    ]) c.put_notes.ensures
