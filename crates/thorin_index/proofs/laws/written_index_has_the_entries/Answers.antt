use Rattle.thorin_index.proofs.ReadAgain.{written_rows}
use Rattle.thorin_index.proofs.laws.written_index_has_the_entries.Goals as goal

pub returns : goal.returns
returns c = written_rows
