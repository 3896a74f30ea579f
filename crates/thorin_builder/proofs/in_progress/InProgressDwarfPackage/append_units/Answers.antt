use Rattle.{thorin_index.specs.Rows.blank, thorin_input.proofs.NewUnitLemmas.with_rows}
use Rattle.thorin_join.proofs.Terms.{InProgress, with_new_units}
use Rattle.std.proofs.Common.{ap, arith, get_or, suc, ◌∙◌, ◌≡◌}
use Rattle.std.proofs.lemmas.List.{get_or_default}
use Rattle.thorin_builder.proofs.in_progress.InProgressDwarfPackage.append_units.Goals as goal

pub loop-name-preserved : goal.loop-name-preserved
unfolding with_new_units
loop-name-preserved c =
    let rows = c.args.new.now.rows.items in
    let steps = c.in-Some.ensures.steps in
    let numbered = rw steps at c.loop-name.invariant.numbered in
    let row : c.index-row.result.now ≡ get_or rows c.in-Some.unit.now.row_number blank =
    c.index-row.ensures ∙ get_or_default rows c.in-Some.unit.now.row_number _ blank
    (numbered 0 (c.in-Some.name.now, c.in-Some.unit.now) (omega arith)) in
    let added = rw row at c.in_ok-append_unit.ensures.meaning in
    record {
      units = ap (λ (made : InProgress). with_new_units made (with_rows rows c.next.new.self)) added
          ∙ (rw steps at c.loop-name.invariant.units);
      numbered = λ k d less. numbered (suc k) d (omega arith);
      extends = λ before h. c.append_unit.ensures.extends before
          (c.loop-name.invariant.extends before h);
    }
