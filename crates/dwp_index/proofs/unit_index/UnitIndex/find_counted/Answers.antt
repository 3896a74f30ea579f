use Rattle.std.proofs.Common.{ap, arith, inl, inr, sym, ◌∙◌}
use Rattle.dwp_index.proofs.Indexes.{ended, goes_on, row_of-used, slots-length, unended}
use Rattle.dwp_table.specs.Probing.{row_of}
use Rattle.dwp_index.proofs.unit_index.UnitIndex.find_counted.Goals as goal

pub returns-then-self-eq0 : goal.returns-then-self-eq0
returns-then-self-eq0 c =
    let says = unended c.args.self.now.signatures _ c.args.identifier 0
    (slots-length c.self.inside c.args.self.now c.self.view_is ∙ c.if-self-eq0.true)
    (λ j h. absurd (omega arith)) in assumption

pub loop-looked-init : goal.loop-looked-init
loop-looked-init c =
    let slots = slots-length c.self.inside c.args.self.now c.self.view_is in
    record {
      at_place = rw slots c.first_place-at.ensures.first;
      within = omega (arith, c.first_place-at.ensures.within);
      earlier = λ j h. absurd (omega arith);
    }

pub returns-then-row-eq0 : goal.returns-then-row-eq0
returns-then-row-eq0 c =
    let unused = sym c.slot-signature.ensures.row ∙ c.if-row-eq0.true in
    let says = rw unused at (ended c.loop-looked.invariant
    (omega (arith, slots-length c.self.inside c.args.self.now c.self.view_is)) (inl unused)) in
    assumption

pub returns-then-signature-identifier : goal.returns-then-signature-identifier
returns-then-signature-identifier c =
    let row = ap row_of (sym c.slot-signature.ensures.row)
    ∙ row_of-used c.slot-signature.result.1 c.if-row-eq0.false in
    let says = rw row at (ended c.loop-looked.invariant
    (omega (arith, slots-length c.self.inside c.args.self.now c.self.view_is))
    (inr (sym c.slot-signature.ensures.signature ∙ c.if-signature-identifier.true))) in assumption

pub place_after-at-requires-clause-within : goal.place_after-at-requires-clause-within
place_after-at-requires-clause-within c = omega (
  arith,
  c.loop-looked.invariant.within,
  slots-length c.self.inside c.args.self.now c.self.view_is,
)

pub loop-looked-preserved : goal.loop-looked-preserved
loop-looked-preserved c =
    let slots = slots-length c.self.inside c.args.self.now c.self.view_is in
    goes_on c.loop-looked.invariant _ (λ e. c.if-row-eq0.false (c.slot-signature.ensures.row ∙ e))
    (λ e. c.if-signature-identifier.false (c.slot-signature.ensures.signature ∙ e))
    (rw slots (c.place_after-at.ensures.next c.loop-looked.looked
    (rw slots at c.loop-looked.invariant.at_place)))
    (omega (arith, c.place_after-at.ensures.within))

pub returns : goal.returns
returns c =
    let says = unended _ _ c.args.identifier c.self.inside.slot_count
    (slots-length c.self.inside c.args.self.now c.self.view_is)
    (λ j h. c.loop-looked.invariant.earlier j (omega arith)) in assumption
