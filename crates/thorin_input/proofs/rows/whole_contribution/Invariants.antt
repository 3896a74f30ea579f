use Rattle.std.proofs.Common.{drop, length, map, ◌+◌, ◌≡◌}
use Rattle.thorin_input.specs.{Parts.joined_parts, View.part}
use Rattle.thorin_input.proofs.rows.whole_contribution.Given as goal

-- the size so far and that of the parts that are left are that of all
abbrev pub invariant-loop-part : goal.invariant-loop-part
invariant-loop-part l = l.size + length (joined_parts l.kind (map part (drop l.part-index l.parts)))
    ≡ length (joined_parts l.kind (map part l.parts))
