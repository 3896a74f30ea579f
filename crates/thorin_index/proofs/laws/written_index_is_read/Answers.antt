use Rattle.thorin_index.proofs.ReadAgain.{index_is_read}
use Rattle.thorin_index.proofs.laws.written_index_is_read.Goals as goal

pub returns : goal.returns
returns c = index_is_read
