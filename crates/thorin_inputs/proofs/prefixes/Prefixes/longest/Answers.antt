use Rattle.std.proofs.lemmas.{Grind.common_steps, Option.get_or_from_slice_get, Option.gets}
use Rattle.thorin_inputs.proofs.Fronts.{begun, behind-prefix, last, none}
use Rattle.std.proofs.Common.{arith, refl, slice_get, Some, ◌-◌, ◌≡◌}
use Rattle.thorin_inputs.proofs.prefixes.Prefixes.longest.Goals as goal

pub past_last-place-requires-clause-nested : goal.past_last-place-requires-clause-nested
past_last-place-requires-clause-nested c =
    let it = c.args.self.now in
    let few = rw c.deref.ensures.value at c.count_upto-count.ensures.bound in
    rw (c.deref-2.ensures.value, c.deref-3.ensures.value) (record {
      known = omega (arith, few, it.nested.known);
      past = λ i d lt. it.nested.past i d (omega (arith, lt, few));
    })

pub past_last-place-requires-clause-before : goal.past_last-place-requires-clause-before
past_last-place-requires-clause-before c =
    rw c.deref-2.ensures.value (rw c.deref.ensures.value at c.count_upto-count.ensures.point).0

pub returns-in_err-checked_sub : goal.returns-in_err-checked_sub
returns-in_err-checked_sub c =
    let it = c.args.self.now in
    rw c.from_residual.ensures (none c.args.path.now it.are it.ordered
    (rw c.deref.ensures.value at c.count_upto-count.ensures.bound)
    (rw c.deref.ensures.value at c.count_upto-count.ensures.point).1
    (rw c.deref-2.ensures.value at c.past_last-place.ensures)
    (omega (arith, c.in_err-checked_sub.ensures)))

pub returns-in_err-strip_prefix : goal.returns-in_err-strip_prefix
returns-in_err-strip_prefix c =
    let es = c.args.self.now.last.items in
    let entry = c.in_ok-from.field-0.now in
    let place = c.past_last-place.result in
    let at : slice_get es (place - 1) ≡ Some entry = grind (arith, common_steps, gets) in
    let past = rw c.deref-2.ensures.value at c.past_last-place.ensures in
    let rest = begun entry.0.now c.args.path.now
    (rw (get_or_from_slice_get es (place - 1) entry entry at) at
    (past.fits (place - 1) entry (omega arith) (omega (arith, c.in_ok-checked_sub.ensures)))) in
    absurd (c.in_err-strip_prefix.ensures.cases rest.0 rest.1)

pub returns : goal.returns
returns c =
    let it = c.args.self.now in
    let entry = c.in_ok-from.field-0.now in
    let at : slice_get it.last.items (c.past_last-place.result - 1) ≡ Some entry =
    grind (arith, common_steps, gets) in
    let cases = c.in_ok-strip_prefix.ensures.cases in
    last c.args.path.now it.are it.ordered
    (rw c.deref.ensures.value at c.count_upto-count.ensures.bound)
    (rw c.deref.ensures.value at c.count_upto-count.ensures.point).1
    (rw c.deref-2.ensures.value at c.past_last-place.ensures) entry
    c.in_ok-strip_prefix.field-0.now (omega (arith, c.in_ok-checked_sub.ensures)) at
    (rw (cases.1.1, behind-prefix, ← cases.2) refl)
