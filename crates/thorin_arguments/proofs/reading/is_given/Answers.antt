use Rattle.std.proofs.Common.{◌∙◌, ap, is_some}
use Rattle.thorin_arguments.proofs.Completing.{kept}
use Rattle.thorin_arguments.proofs.reading.is_given.Goals as goal

pub returns : goal.returns
returns c = c.is_some.ensures
    ∙ (kept (λ v. v.now) c.value_of.result ∙ ap is_some c.value_of.ensures)
