use Rattle.dwp_dwarf.proofs.{Places.place_end, Places.place_next, Tables.look_up-by}
use Rattle.dwp_dwarf.proofs.Terms.{length, refl, sym, ◌∙◌}
use Rattle.dwp_dwarf.proofs.chains.Chains.place_at.Goals as goal

pub returns-in_ok-version-in-Ok-Some-clause-place :
    goal.returns-in_ok-version-in-Ok-Some-clause-place
returns-in_ok-version-in-Ok-Some-clause-place g c = λ section all is.
    let e = rw c.len-rest.ensures at c.in_ok-next-in-Ok-Some.ensures in
    let left = length (g.R.Reader.input c.in-Ok-Some.behind).bytes in
    place_next is (rw c.in-Ok-Some.field-0-is at c.in-Ok-Some.ensures)
    (rw (sym e) at (all left)) refl (c.in_ok-behind-in-Ok-Some.ensures ∙ c.len-rest.ensures)
    c.in_ok-version-in-Ok-Some.ensures.fits (rw c.in_ok-first-in-Ok-Some.ensures
    at c.in_ok-version-in-Ok-Some.ensures.value) c.in_ok-version-in-Ok-Some.ensures.others

pub returns-in-Ok-None-clause-place : goal.returns-in-Ok-None-clause-place
returns-in-Ok-None-clause-place g c = λ section all is.
    let end = rw c.in-Ok-None.field-0-is at c.in-Ok-None.ensures in
    place_end is (λ code. look_up-by code _ end) (λ x h. cc) refl

pub returns-in-Err-clause-place : goal.returns-in-Err-clause-place
returns-in-Err-clause-place g c = λ section all is.
    let error = c.in-Err.ensures in
    place_end is (λ code. look_up-by code _ error) (λ x h. cc) refl
