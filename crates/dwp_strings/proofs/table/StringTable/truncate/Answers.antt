use Rattle.dwp_strings.proofs.Hashed.{hashed_take, indexed_take}
use Rattle.std.proofs.Common.{arith, refl}
use Rattle.dwp_strings.proofs.table.StringTable.truncate.Goals as goal

pub invariant_of-self : goal.invariant_of-self
invariant_of-self c = hashed_take _ _ c.args.mark.strings c.args.mark.bytes c.self.invariant
    (grind (arith, c.self.view_is)) (grind (arith, c.self.view_is)) c.truncate.ensures refl
    c.keep_below.ensures refl

pub returns : goal.returns
returns c = rw (c.truncate.ensures, ← c.self.view_is) (indexed_take _ _ c.args.mark.strings
    c.args.mark.bytes c.self.invariant.indexed (grind (arith, c.self.view_is))).0
