use Rattle.std.proofs.{Common.arith, lemmas.Grind.common_steps}
use Rattle.thorin_executable.proofs.ByPlace.{ascends_pairs}
use Rattle.thorin_executable.proofs.relocations.add_relocations.Goals as goal

pub returns-clause-ascends : goal.returns-clause-ascends
returns-clause-ascends c = ascends_pairs c.loop-offset.list.items c.loop-raw.found.entries
    (grind (arith, common_steps)) c.len.ensures.ordered
