use Rattle.dwp_dwarf.proofs.Terms.{ne_eqb, refl, sym, ◌∙◌}
use Rattle.dwp_units.proofs.Readings.{reads_uleb, shorter}
use Rattle.dwp_dwarf.proofs.Values.{named_form_cases}
use Rattle.dwp_dwarf.proofs.value.named_form.Goals as goal

pub loop-named-smaller : goal.loop-named-smaller
loop-named-smaller g c = shorter reads_uleb _ _ c.in_ok-named.ensures

pub loop-named-preserved : goal.loop-named-preserved
loop-named-preserved g c =
    let other = ne_eqb _ _ c.if-named-eq-IMPLICIT_CONST.false in
    sym (rw (named_form_cases, c.loop-named-test.true, c.in_ok-named.ensures, other) refl)
    ∙ c.loop-named.invariant

pub returns : goal.returns
returns g c = sym c.loop-named.invariant
    ∙ rw (named_form_cases, ne_eqb _ _ c.loop-named-test.false) refl
