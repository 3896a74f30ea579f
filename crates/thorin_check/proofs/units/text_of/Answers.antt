use Rattle.thorin_check.proofs.units.text_of.Goals as goal

pub returns-in-Ok-Some-clause-gathered : goal.returns-in-Ok-Some-clause-gathered
returns-in-Ok-Some-clause-gathered c =
    rw (rw c.in-Ok-Some.field-0-is at c.in-Ok-Some.ensures) c.text_of_found.ensures.gathered
