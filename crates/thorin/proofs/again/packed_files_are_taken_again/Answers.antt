use Rattle.{std.proofs.Common.rules, thorin.proofs.Running.run-accepts, thorin.specs.Run.IsWritten}
use Rattle.{std.proofs.lemmas.Result.IfOk-weaker, thorin_join.specs.Builder.start}
use Rattle.thorin.proofs.again.packed_files_are_taken_again.Goals as goal

pub returns-clause-again : goal.returns-clause-again
returns-clause-again g c inputs packed is packs =
    IfOk-weaker packed.file (λ file. IsWritten is.state file.items) _ (λ file w.
    c.written_packages_are_taken_again.ensures.again is.accepted is.state file.items
    (run-accepts (g.Sess.Session.offer c.args.session.now) inputs start is.state
    packed.outcomes.items is.accepted is.ran).0 packs w) (grind (rules, is.written))

pub returns-clause-answers : goal.returns-clause-answers
returns-clause-answers g c inputs packed is one =
    IfOk-weaker packed.file (λ file. IsWritten is.state file.items) _ (λ file w.
    c.written_packages_are_taken_again.ensures.answers is.accepted is.state file.items
    (run-accepts (g.Sess.Session.offer c.args.session.now) inputs start is.state
    packed.outcomes.items is.accepted is.ran).0 one w) (grind (rules, is.written))
