use Rattle.std.proofs.Common.{drop, map, ◌++◌, ◌≡◌}
use Rattle.thorin_input.specs.View.{part}
use Rattle.thorin_builder.proofs.repeated.copied.Given as goal

-- the parts so far, and those that are left, are all
abbrev pub invariant-loop-part : goal.invariant-loop-part
invariant-loop-part l =
    map part l.copies.items ++ map part (drop l.part-index l.parts) ≡ map part l.parts
