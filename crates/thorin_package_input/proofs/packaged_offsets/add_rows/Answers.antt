use Rattle.thorin_package_input.proofs.packaged_offsets.add_rows.Goals.{in-Some-range_of_row+in_ok-insert}
use Rattle.thorin_package_input.proofs.packaged_offsets.add_rows.Goals.{in_default-range_of_row}
use Rattle.dwp_base.specs.declared.section.SectionKind.TheVariants.{StrOffsets}
use Rattle.thorin_package_input.proofs.Rows.{map-insert_key, ranges_from}
use Rattle.std.proofs.Common.{ap, arith, sym, ◌∙◌}
use Rattle.thorin_package_input.proofs.packaged_offsets.add_rows.Goals as goal

pub loop-number-preserved : goal.loop-number-preserved
loop-number-preserved c =
    let left = ranges_from c.in-Some.index.now StrOffsets c.loop-number.number (omega arith) in
    elim c.match-range_of_row.branch [
      | in-Some-range_of_row+in_ok-insert w ↦
          rw (ap (λ s. s.keys) w.keys-is ∙ w.in_ok-insert.ensures.keys, map-insert_key)
          (rw (left, sym w.in-Some-range_of_row.ensures) at c.loop-number.invariant)
      | in_default-range_of_row w ↦ rw (ap (λ s. s.keys) w.keys-is)
          (rw (left, sym c.range_of_row.ensures ∙ w.in_default-range_of_row.is) at
          c.loop-number.invariant)
    ]
