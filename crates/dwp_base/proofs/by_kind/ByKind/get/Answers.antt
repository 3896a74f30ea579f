use Rattle.std.proofs.{Common.arith, lemmas.Grind.elements}
use Rattle.dwp_base.proofs.by_kind.ByKind.get.Goals as goal

pub returns-clause-at : goal.returns-clause-at
returns-clause-at g c = grind (arith, elements)

pub returns-clause-value : goal.returns-clause-value
returns-clause-value g c = grind (arith, elements)
