use Rattle.std.proofs.{Common.arith, lemmas.Grind.elements}
use Rattle.dwp_base.proofs.by_kind.ByKind.set.Goals as goal

pub returns-clause-values : goal.returns-clause-values
returns-clause-values g c = grind (arith, elements)

pub returns-clause-each : goal.returns-clause-each
returns-clause-each g c = grind (arith, elements)
