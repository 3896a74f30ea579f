use Rattle.thorin_errors.proofs.Texts.{has_text}
use Rattle.thorin_errors.proofs.laws.every_error_has_a_text.Goals as goal

pub returns : goal.returns
returns c = has_text
