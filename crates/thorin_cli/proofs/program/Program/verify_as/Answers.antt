use Rattle.std.proofs.Common.{Err, inr, refl}
use Rattle.thorin_cli.proofs.program.Program.verify_as.Goals as goal

pub returns-in-Err-clause-done : goal.returns-in-Err-clause-done
returns-in-Err-clause-done g c = record {
  answer = Err c.in-Err.failure;
  has = c.report.ensures.has;
  done = (
    rw (c.report.ensures.kept.0) refl,
    inr (refl, c.in-Err.ensures.nameless, rw (c.report.ensures.kept.1) refl),
  );
}
