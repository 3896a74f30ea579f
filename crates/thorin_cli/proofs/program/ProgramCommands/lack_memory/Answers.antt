use Rattle.thorin_cli.{proofs.Told.reported, specs.Programs.system}
use Rattle.{std.proofs.Common.refl, thorin_print.specs.declared.output.Failure.TheVariants.Memory}
use Rattle.thorin_cli.proofs.program.ProgramCommands.lack_memory.Goals as goal

pub returns-clause-does : goal.returns-clause-does
returns-clause-does g c = (
  (refl, refl, refl),
  (
    (refl, refl),
    reported (system
        g.F.FileSystem.offer g.F.FileSystem.known g.F.FileSystem.begun g.O.Write.contents
        g.E.Write.contents (g.R.FileReader.offer c.args.self.now.reader.now))
        c.args.self.now.files.now c.args.self.now.out.now c.args.self.now.err.now _
        Memory _ c.report.ensures.reports,
  ),
)
