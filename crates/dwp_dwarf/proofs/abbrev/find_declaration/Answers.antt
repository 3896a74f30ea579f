use Rattle.dwp_dwarf.proofs.Tables.{next_shorter}
use Rattle.dwp_dwarf.proofs.abbrev.find_declaration.Goals as goal

pub loop-found-smaller : goal.loop-found-smaller
loop-found-smaller g c = next_shorter _ _ (rw c.in-Some.is at c.in_ok-found.ensures)
