use Rattle.std.specs.Hash.FoldHasher.{read_u32}
use Rattle.dwp_strings.proofs.hash.half_at.Goals as goal

pub returns : goal.returns
unfolding read_u32
returns c = c.from_le_bytes.ensures
