use Rattle.std.proofs.Common.{◌≡◌, drop}
use Rattle.thorin_package_input.specs.PackagedOffsets.{ranges_test}
use Rattle.thorin_package_input.proofs.packaged_offsets.test_ranges.Given as goal

abbrev pub invariant-loop-range : goal.invariant-loop-range
invariant-loop-range l = ranges_test l.encoding l.size l.last_end (drop l.range-index l.ranges) ≡
    ranges_test l.encoding l.size 0 l.ranges
