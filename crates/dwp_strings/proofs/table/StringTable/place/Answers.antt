use Rattle.dwp_strings.proofs.Hashed.{used_there}
use Rattle.dwp_strings.proofs.table.StringTable.place.Goals.{in-Err, in-Ok}
use Rattle.dwp_strings.proofs.table.StringTable.place.Goals.{in-Err-2+in_ok-place-in-Err-2+in_default-2}
use Rattle.dwp_strings.proofs.table.StringTable.place.Goals.{in-Ok-2+else-stands_at-2+in_ok-place-in-Ok-2+in_default+in_ok-share-in-Ok-2}
use Rattle.dwp_strings.proofs.table.StringTable.place.Goals as goal

pub returns-then-stands_at-clause-placed : goal.returns-then-stands_at-clause-placed
returns-then-stands_at-clause-placed c =
    rw (← c.self.view_is) (used_there _ _ _ _ c.self.invariant.indexed
    (rw c.as_slice.ensures.value at (c.stands_at.ensures.0 c.if-stands_at.true)))

pub returns-then-stands_at-2-clause-placed : goal.returns-then-stands_at-2-clause-placed
returns-then-stands_at-2-clause-placed c =
    rw (← c.self.view_is) (used_there _ _ _ _ c.self.invariant.indexed
    (rw c.as_slice-in-Ok-2.ensures.value at (c.stands_at-in-Ok-2.ensures.0 c.if-stands_at-2.true)))

pub place_ordered-requires-clause-table : goal.place_ordered-requires-clause-table
place_ordered-requires-clause-table c = elim c.match-seek.branch [
  | in-Ok w ↦ rw w.self-inside-is c.self.invariant
  | in-Ok-2+else-stands_at-2+in_ok-place-in-Ok-2+in_default+in_ok-share-in-Ok-2 w ↦
      rw w.self-inside-is w.share.ensures.table
  | in-Err w ↦ rw w.self-inside-is c.self.invariant
  | in-Err-2+in_ok-place-in-Err-2+in_default-2 w ↦ rw w.self-inside-is w.add.ensures.table
]
