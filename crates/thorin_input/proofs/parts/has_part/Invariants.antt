use Rattle.std.proofs.Common.{drop, map, ◌≡◌}
use Rattle.thorin_input.specs.{Parts.has_part, View.part}
use Rattle.thorin_input.proofs.parts.has_part.Given as goal

-- those that are left have one just where all have one
abbrev pub invariant-loop-part : goal.invariant-loop-part
invariant-loop-part l = has_part l.kind (map part (drop l.part-index l.parts)) ≡ has_part l.kind
    (map part l.parts)
