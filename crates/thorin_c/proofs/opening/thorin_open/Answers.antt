use Rattle.std.proofs.Common.{refl, rules}
use Rattle.thorin_c.proofs.opening.thorin_open.Goals as goal

pub returns-in-Ok-at-clause-filled : goal.returns-in-Ok-at-clause-filled
returns-in-Ok-at-clause-filled c =
    rw (c.in-Ok.ensures.same, c.in-Ok-at.ensures) (refl, c.in-Ok-at.ensures)

pub returns-in-Err-at-clause-filled : goal.returns-in-Err-at-clause-filled
returns-in-Err-at-clause-filled c =
    rw (c.in-Ok.ensures.same, c.in-Err-at.ensures) (search rules, refl)
