use Rattle.thorin_package_input.specs.{PackagedOffsets.with_ranges, RowPlaces.ranges_of}
use Rattle.dwp_base.specs.declared.section.SectionKind.TheVariants.{StrOffsets}
use Rattle.thorin_package_input.specs.RangeKeys.{range_at}
use Rattle.std.proofs.Common.{drop, map, ◌≡◌}
use Rattle.thorin_package_input.proofs.packaged_offsets.add_rows.Given as goal

-- those so far with those of the rows that are left are all
abbrev pub invariant-loop-number : goal.invariant-loop-number
invariant-loop-number l = with_ranges (drop l.number (ranges_of l.index StrOffsets)) (map range_at
    l.keys.keys) ≡ with_ranges (ranges_of l.index StrOffsets) (map range_at l.initial.keys.keys)
