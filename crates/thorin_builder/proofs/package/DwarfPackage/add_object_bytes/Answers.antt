use Rattle.thorin_again.proofs.Lists.{taken-holds, taken-plain}
use Rattle.thorin_builder.proofs.Inputs.{joined-later, taken-as}
use Rattle.thorin_join.specs.Builder.{own_after, State}
use Rattle.{std.proofs.Common.arith, std.proofs.Common.◌≡◌, thorin_builder.specs.StateView.begun_of}
use Rattle.{std.proofs.lemmas.Bool.Decides.nat_tests, thorin_builder.specs.BuilderView.building}
use Rattle.thorin_builder.proofs.package.DwarfPackage.add_object_bytes.Goals as goal

-- a refused object leaves it so
pub invariant_of-self : goal.invariant_of-self
invariant_of-self g c = rw c.in_err-encoding.ensures.err c.self.invariant

pub invariant_of-self-2 : goal.invariant_of-self-2
invariant_of-self-2 g c =
    let old : State = (building c.self.inside).state in
    let now = begun_of c.add_input.new.in_progress in
    let found = c.in_ok-encoding.encoding in
    let made = c.in_ok-encoding.ensures.meaning in
    let units = c.unit_count-units.ensures in
    let count = c.unit_count.ensures in
    let first = c.is_none-is_first.ensures in
    let own : own_after old now found ≡ c.if-unit_count-units.self =
    elim c.if-unit_count-units.branch [
      | goal.then-unit_count-units w ↦ grind (arith, nat_tests, units, count, w)
      | goal.else-unit_count-units+then-is_first w ↦
          grind (arith, nat_tests, units, count, first, w)
      | goal.else-unit_count-units+else-is_first w ↦
          grind (arith, nat_tests, units, count, first, w)
    ] in
    let new : State = record old { begun = now; own = c.if-unit_count-units.self } in
    let step = taken-as c.args.bytes.now old now found c.if-unit_count-units.self made
    c.in_ok-encoding.ensures.own own in (
      c.self.invariant.0,
      c.inputs_are_joined.ensures.sound c.args.bytes.now old.begun now c.self.invariant.1 made,
      taken-holds c.args.bytes.now old new c.self.invariant.1 c.self.invariant.2 step,
      taken-plain c.args.bytes.now old new c.self.invariant.1 c.self.invariant.3 step,
    )

pub returns-clause-later : goal.returns-clause-later
returns-clause-later g c =
    let old = begun_of c.self.inside.in_progress in
    let now = begun_of c.add_input.new.in_progress in
    rw (← c.self.view_is) (joined-later c.args.bytes.now old now c.in_ok-encoding.ensures.extends
    (c.inputs_are_joined.ensures.joins c.args.bytes.now old now c.self.invariant.1
    c.in_ok-encoding.ensures.meaning))
