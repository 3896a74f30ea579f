use Rattle.std.{proofs.Common.arith, proofs.lemmas.Grind.elements}
use Rattle.std.specs.Hash.FoldHasher.{read_u32, read_u64}
use Rattle.dwp_strings.proofs.hash.word_at.Goals as goal

pub returns : goal.returns
unfolding read_u32 read_u64
returns c = grind (arith, elements)
