use Rattle.thorin_terminal.proofs.Longer.{longer}
use Rattle.thorin_terminal.proofs.responses.HostResponsesResponseFiles.text.Goals as goal

pub returns-in-Ok-None-clause-long : goal.returns-in-Ok-None-clause-long
returns-in-Ok-None-clause-long c = λ is. longer c.args.most
