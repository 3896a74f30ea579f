use Rattle.thorin_again.proofs.Opened.{own-parts}
use Rattle.thorin_again.proofs.laws.own_packages_are_taken_up_to_their_parts.Goals as goal

pub returns-clause-parts : goal.returns-clause-parts
returns-clause-parts c = own-parts
