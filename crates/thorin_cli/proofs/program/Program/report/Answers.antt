use Rattle.thorin_cli.{proofs.Told.reported, specs.Programs.system}
use Rattle.thorin_cli.proofs.program.Program.report.Goals as goal

pub returns-in_default-clause-has : goal.returns-in_default-clause-has
returns-in_default-clause-has g c = reported (system g.F.FileSystem.offer g.F.FileSystem.known
    g.F.FileSystem.begun g.O.Write.contents g.E.Write.contents
    (g.R.FileReader.offer c.args.self.now.reader.now))
    c.args.self.now.files.now c.args.self.now.out.now c.args.self.now.err.now _
    c.args.failure.now _ c.report.ensures.reports
