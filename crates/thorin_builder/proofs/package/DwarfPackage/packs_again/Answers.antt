use Rattle.std.proofs.Common.{rules}
use Rattle.thorin_builder.proofs.package.DwarfPackage.packs_again.Goals as goal

pub returns-then-is_some-clause-encoding : goal.returns-then-is_some-clause-encoding
returns-then-is_some-clause-encoding g c = λ h.
    let holds = c.self.invariant.2 in
    rw (← c.self.view_is) (grind (rules, holds, c.is_some.ensures, c.if-is_some.true))
