use Rattle.thorin_package_input.proofs.row_places.RowPlaces.new.Goals.{in-Some+else-loop-number-test}
use Rattle.thorin_package_input.proofs.row_places.RowPlaces.new.Goals.{in_default}
use Rattle.thorin_package_input.proofs.Rows.{from_absent, from_end, from_range}
use Rattle.std.proofs.Common.{ap, arith, option_copied, refl, sym, ◌∙◌, ◌≡◌}
use Rattle.thorin_package_input.specs.RowPlaces.{row_by_place}
use Rattle.thorin_package_input.proofs.row_places.RowPlaces.new.Goals as goal

pub loop-number-init : goal.loop-number-init
loop-number-init c = from_end _ _ _ _ c.new-rows.ensures.empty
    (omega (arith, c.unit_count-number.ensures))

pub loop-number-preserved-in_ok-insert : goal.loop-number-preserved-in_ok-insert
loop-number-preserved-in_ok-insert c =
    from_range _ _ c.loop-number.number (omega arith) (omega arith) _ c.loop-number.invariant _ _
    (sym c.in-Some-range_of_row.ensures) c.in_ok-insert.ensures.updates

pub loop-number-preserved : goal.loop-number-preserved
loop-number-preserved c =
    from_absent _ _ c.loop-number.number (omega arith) (omega arith) _ c.loop-number.invariant
    (sym c.range_of_row.ensures ∙ c.in_default-range_of_row.is)

pub invariant_of-result : goal.invariant_of-result
unfolding row_by_place
invariant_of-result c = elim c.match-index.branch [
  | in-Some+else-loop-number-test w ↦
      let first : w.loop-number.number ≡ 0 = omega (arith, w.loop-number-test.false) in
      record {
        each = rw (w.rows-is, ap option_copied w.in-Some.is) (rw first at
            w.loop-number.invariant.each);
      }
  | in_default w ↦ record {
    each = λ range. rw (w.rows-is, ap option_copied w.in_default.is, c.new-rows.ensures.empty) refl;
  }
]
