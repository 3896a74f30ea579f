use Rattle.{std.proofs.Common.rules, thorin_input.proofs.Walking.plain-is}
use Rattle.thorin_input.proofs.object.InputObject.one_encoding.Goals as goal

pub returns : goal.returns
returns c = search (rules, plain-is c.args.self.now)
