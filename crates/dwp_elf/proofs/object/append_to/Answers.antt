use Rattle.dwp_elf.proofs.Changes.{contents_of-set_same, of_kind}
use Rattle.std.proofs.Common.{ap, arith, length, None, refl, Some, sym}
use Rattle.std.proofs.lemmas.Grind.{common_steps}
use Rattle.dwp_elf.proofs.object.append_to.Goals as goal

pub returns-in_err-append_by_pieces-in-Some-clause-unchanged :
    goal.returns-in_err-append_by_pieces-in-Some-clause-unchanged
returns-in_err-append_by_pieces-in-Some-clause-unchanged c =
    grind (arith, common_steps, contents_of-set_same)

pub returns-in_ok-append_by_pieces-in-Some-clause-contents :
    goal.returns-in_ok-append_by_pieces-in-Some-clause-contents
returns-in_ok-append_by_pieces-in-Some-clause-contents c =
    (of_kind _ _ (Some _) (rw c.deref.ensures.value at c.in-Some.ensures)).added _ _ _
    c.index_mut-section.ensures.value refl
    c.in_ok-append_by_pieces-in-Some.ensures.ok

pub returns-in_ok-append_by_pieces-in-Some-clause-place :
    goal.returns-in_ok-append_by_pieces-in-Some-clause-place
returns-in_ok-append_by_pieces-in-Some-clause-place c =
    let first = of_kind _ _ (Some _) (rw c.deref.ensures.value at c.in-Some.ensures) in
    let content = ap length (first.content _ c.index_mut-section.ensures.value) in
    omega (arith, content, c.index_mut-section.result.now.1.ok.0, c.len-place.ensures)

pub returns-in_ok-push-in-None-clause-contents : goal.returns-in_ok-push-in-None-clause-contents
returns-in_ok-push-in-None-clause-contents c =
    rw c.in_ok-push-in-None.ensures.items ((of_kind _ _ None (rw c.deref.ensures.value at
    c.in-None.ensures)).added _ _ refl c.in_ok-content-in-None.ensures.items)

pub returns-in_ok-push-in-None-clause-place : goal.returns-in_ok-push-in-None-clause-place
returns-in_ok-push-in-None-clause-place c =
    sym (ap length (of_kind c.args.kind c.args.sections.now.items None (rw c.deref.ensures.value at
    c.in-None.ensures)).content)
