use Rattle.thorin_commands.specs.Cause.{Unfinished}
use Rattle.std.proofs.Common.{inl, inr, refl}
use Rattle.thorin_commands.proofs.making.finished.Goals as goal

pub returns : goal.returns
returns g c =
    let finish = c.finish_with_differing-finished.ensures in record {
      made = tt;
      empty = λ e. absurd cc;
      told = record {
        cause = Unfinished c.match-finished.error;
        is = record {
          error = c.match-finished.error;
          is = refl;
          refuses = elim c.match-finished.branch [
            | goal.in-Ok+in-Err-can_be_written w ↦
                let large = w.in-Err-can_be_written.ensures.refused in
                rw (w.error-is, large.0) (λ aside. inr (
                  refl,
                  record {
                    file = w.in-Ok.object;
                    tested = rw w.in-Ok.is at finish.refusal;
                    finished = rw w.in-Ok.is at finish.finished;
                    unfit = large.1;
                  },
                ))
            | goal.in-Err w ↦
                rw w.error-is (λ aside. inl ((rw w.in-Err.is at finish.refusal) aside))
          ];
        };
        line = c.in_ok-tell_unfinished.ensures.told;
      };
    }
