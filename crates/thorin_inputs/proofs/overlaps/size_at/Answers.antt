use Rattle.{std.proofs.Common.◌∙◌, thorin_inputs.proofs.Counted.sized}
use Rattle.thorin_inputs.proofs.overlaps.size_at.Goals as goal

pub returns-in-Ok : goal.returns-in-Ok
returns-in-Ok c = rw c.in-Ok.ensures.meaning at (sized c.args.strings.now c.args.place)

pub returns-in-Err : goal.returns-in-Err
returns-in-Err c =
    c.saturating_sub.ensures ∙ rw c.in-Err.ensures.meaning at
    (sized c.args.strings.now c.args.place)
