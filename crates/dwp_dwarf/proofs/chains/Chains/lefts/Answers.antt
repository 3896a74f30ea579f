use Rattle.dwp_dwarf.proofs.Tables.{next_shorter}
use Rattle.dwp_dwarf.proofs.chains.Chains.lefts.Goals as goal

pub loop-lefts-smaller : goal.loop-lefts-smaller
loop-lefts-smaller g c = next_shorter _ _ (rw c.in-Ok-Some.field-0-is at c.in-Ok-Some.ensures)
