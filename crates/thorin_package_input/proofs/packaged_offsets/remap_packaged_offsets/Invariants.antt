use Rattle.std.proofs.Common.{◌≡◌, ◌++◌, map}
use Rattle.thorin_package_input.specs.RangeKeys.{range_at}
use Rattle.thorin_package_input.proofs.packaged_offsets.remap_packaged_offsets.Given as goal

-- what is listed, and what is left
abbrev pub invariant-loop-offset : goal.invariant-loop-offset
invariant-loop-offset l = l.ranges.items ++ map range_at l.offset-iterator ≡ map range_at
    l.initial.offset-iterator
