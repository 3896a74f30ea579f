use Rattle.dwp_strings.proofs.Hashed.{used_there}
use Rattle.dwp_strings.proofs.table.StringTable.place_guessed.Goals as goal

pub returns-then-begins_alike-clause-placed : goal.returns-then-begins_alike-clause-placed
returns-then-begins_alike-clause-placed c =
    rw (← c.self.view_is) (used_there _ _ _ _ c.self.invariant.indexed
    (rw c.as_slice.ensures.value at (c.begins_alike.ensures c.if-begins_alike.true)))

pub returns-then-begins_alike-2-clause-placed : goal.returns-then-begins_alike-2-clause-placed
returns-then-begins_alike-2-clause-placed c =
    rw (← c.self.view_is) (used_there _ _ _ _ c.self.invariant.indexed
    (rw c.as_slice-in-Ok.ensures.value at (c.begins_alike-in-Ok.ensures c.if-begins_alike-2.true)))
