use Rattle.thorin_join.proofs.Finished.{bytes-grow, carried-used, inputs-most, lengths-within}
use Rattle.thorin_join.proofs.Finished.{input-most, arith}
use Rattle.thorin_join.proofs.laws.packages_grow_by_used_sections.Goals as goal

pub returns : goal.returns
returns c = record {
  input = input-most bytes-grow;
  inputs = inputs-most bytes-grow;
  carried = carried-used;
  files = λ inputs begun now apart h.
      omega (arith, inputs-most bytes-grow inputs begun now h, lengths-within inputs apart);
}
