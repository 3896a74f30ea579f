use Rattle.thorin_cli.{proofs.Told.noted, specs.Programs.system}
use Rattle.thorin_cli.proofs.program.Program.status.Goals as goal

pub returns-in-Err-clause-has : goal.returns-in-Err-clause-has
returns-in-Err-clause-has g c = rw c.in-Err.is (noted (system g.F.FileSystem.offer
    g.F.FileSystem.known g.F.FileSystem.begun g.O.Write.contents g.E.Write.contents
    (g.R.FileReader.offer c.args.self.now.reader.now))
    c.report-status.new.self.files.now c.report-status.new.self.out.now
    c.report-status.new.self.err.now _ c.note_reading.ensures (λ h. h) _ _
    c.report-status.ensures.has)
