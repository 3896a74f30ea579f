use Rattle.std.proofs.Common.{refl, rules, ◌≡◌}
use Rattle.thorin_input.specs.Names.{with_name}
use Rattle.thorin_builder.proofs.package.DwarfPackage.add_target.Goals as goal

pub returns-in_ok-insert-in-Compilation-clause-target :
    goal.returns-in_ok-insert-in-Compilation-clause-target
returns-in_ok-insert-in-Compilation-clause-target g c =
    let keys : c.insert.new.self.keys ≡ with_name c.self.inside.targets.keys c.args.target =
    search (rules, c.in_ok-insert-in-Compilation.ensures.keys) in
    rw (← c.self.view_is) (rw (keys, c.in-Compilation.is) refl)
