use Rattle.{std.proofs.Common.refl, thorin_commands.specs.Cause.Untaken}
use Rattle.thorin_commands.proofs.making.settle.Goals as goal

pub returns-in_ok-tell_refused-in-Err-clause-told :
    goal.returns-in_ok-tell_refused-in-Err-clause-told
returns-in_ok-tell_refused-in-Err-clause-told g c = record {
  cause = Untaken c.in-Err.why;
  is = record { why = c.in-Err.why; is = refl; reason = c.in-Err.is };
  line = c.in_ok-tell_refused-in-Err.ensures.told;
}

pub returns-in_ok-tell_added-in-Ok-clause-line : goal.returns-in_ok-tell_added-in-Ok-clause-line
returns-in_ok-tell_added-in-Ok-clause-line g c = rw c.now_in-now.ensures at
    c.in_ok-tell_added-in-Ok.ensures.line
