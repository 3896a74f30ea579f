use Rattle.dwp_units.proofs.Terms.{ap, arith, length, refl, rules, sym, ◌∙◌}
use Rattle.dwp_units.proofs.Units.{first_unit, nothing_left}
use Rattle.dwp_units.proofs.unit.UnitHeadersIterator.next.Goals.{then-self-via-then-self}
use Rattle.dwp_units.proofs.unit.UnitHeadersIterator.next.Goals.{then-self-via-else-self+then-is_empty}
use Rattle.dwp_units.proofs.unit.UnitHeadersIterator.next.Goals as goal

pub returns-clause-steps : goal.returns-clause-steps
returns-clause-steps g c = search (rules, first_unit)

pub returns-clause-goes : goal.returns-clause-goes
returns-clause-goes g c =
    record {
      on = λ _. (tt, tt, omega (arith, ap length (returns-clause-steps g c)));
      keeps = tt;
      rests = λ _. tt;
    }

pub returns-then-self-clause-steps : goal.returns-then-self-clause-steps
returns-then-self-clause-steps g c = elim c.then-self.branch [
  | then-self-via-then-self w ↦ (rw w.if-self.true refl, refl)
  | then-self-via-else-self+then-is_empty w ↦ (
    nothing_left g.R.Reader.input c.args.self.now
        (sym w.is_empty.ensures ∙ w.if-is_empty.true),
    refl,
  )
]
