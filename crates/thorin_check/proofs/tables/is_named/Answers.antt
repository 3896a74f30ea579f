use Rattle.{std.proofs.lemmas.Bool.Decides.nat_tests, thorin_check.proofs.Told.none_names}
use Rattle.std.proofs.Common.{arith, sym, ◌∙◌}
use Rattle.thorin_check.proofs.tables.is_named.Goals as goal

pub returns-then-is_from-clause-unnamed : goal.returns-then-is_from-clause-unnamed
returns-then-is_from-clause-unnamed c = λ no named.
    none_names _ _ _ c.loop-i.i _ c.requires.sorted c.loop-i.invariant c.loop-i-test.true
    (sym c.is_from.ensures ∙ c.if-is_from.true) (λ same. grind (arith, nat_tests)) named
