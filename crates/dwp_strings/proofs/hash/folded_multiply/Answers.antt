use Rattle.std.{proofs.Common.refl, specs.Hash.FoldHasher.folded_multiply}
use Rattle.dwp_strings.proofs.hash.folded_multiply.Goals as goal

pub returns : goal.returns
unfolding folded_multiply
returns c = refl
