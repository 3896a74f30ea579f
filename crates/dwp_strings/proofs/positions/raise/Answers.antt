use Rattle.std.proofs.Common.{arith, drop, ext_get_or, ◌+◌, ◌-◌}
use Rattle.std.proofs.lemmas.{Grind.elements, List.get_or-map}
use Rattle.dwp_strings.proofs.positions.raise.Goals as goal

pub returns : goal.returns
returns c =
    let rest = drop c.args.from c.args.starts.now in
    ext_get_or 0 _ _ (grind (arith, elements)) (λ k less.
    grind (arith, elements, get_or-map (λ s. s + 1) rest (k - c.args.from) 0 0))
