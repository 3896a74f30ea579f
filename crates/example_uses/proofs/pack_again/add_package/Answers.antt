use Rattle.std.proofs.Common.{sym, subst}
use Rattle.thorin_join.specs.Builder.{taken}
use Rattle.thorin_again.specs.OwnRefusals.{UnlessForeseen}
use Rattle.example_uses.proofs.Foreseen.{foreseen}
use Rattle.example_uses.proofs.pack_again.add_package.Goals as goal

pub returns-clause-refused : goal.returns-clause-refused
returns-clause-refused g c =
    λ file text accepted order. foreseen c.add_object_bytes.result c.add_object_bytes.new.self.state
    (taken c.args.bytes.now c.args.builder.now.state) c.add_object_bytes.ensures.meaning
    (subst (λ b. UnlessForeseen (taken b c.args.builder.now.state)) (sym text)
    (accepted c.args.builder.now.state c.contained_units-units.ensures.sound order))
