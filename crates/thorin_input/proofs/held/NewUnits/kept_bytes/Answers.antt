use Rattle.std.proofs.Common.{None, Some, ◌∙◌}
use Rattle.thorin_input.{proofs.NewUnitLemmas.kept-are, specs.UnitView.held_in}
use Rattle.thorin_input.proofs.held.NewUnits.kept_bytes.Goals as goal

pub returns-in-Some : goal.returns-in-Some
returns-in-Some c = kept-are (held_in c.args.held) c.args.self.now.rows.items
    c.args.self.now.units.entries c.args.name (Some c.in-Some.unit.now) c.in-Some.ensures.value

pub returns-in-None : goal.returns-in-None
returns-in-None c = c.bytes_of.ensures ∙ kept-are (held_in c.args.held) c.args.self.now.rows.items
    c.args.self.now.units.entries c.args.name None c.in-None.ensures.value
