use Rattle.std.proofs.Common.{refl}
use Rattle.thorin_arguments.specs.{Grammar.thorin, Rules.shape_in}
use Rattle.thorin_arguments.proofs.command.lines.Goals as goal

pub returns : goal.returns
unfolding shape_in thorin
returns c = (_, refl, refl)
