use Rattle.thorin_join.proofs.Terms.{inr, refl}
use Rattle.thorin_again.proofs.{Accepted.taken-all, Opened.own-plain, Opened.read-of}
use Rattle.thorin_again.specs.OwnRefusals.{IsForeseen}
use Rattle.thorin_again.proofs.laws.own_units_are_taken.Goals as goal

pub returns : goal.returns
returns c state encoding file own made begun plain indexes read before =
    taken-all ⊥ IsForeseen (inr (λ id. inr (id, refl))) (read-of own indexes read)
    (own-plain own begun plain) before (λ never. absurd never)
