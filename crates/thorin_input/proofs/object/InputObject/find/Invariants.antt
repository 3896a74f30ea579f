use Rattle.std.proofs.Common.{drop, find, map, ◌≡◌}
use Rattle.thorin_input.specs.{Used.has_kind, View.used}
use Rattle.thorin_input.proofs.object.InputObject.find.Given as goal

-- the first of those that are left is the first of all
abbrev pub invariant-loop-section : goal.invariant-loop-section
invariant-loop-section l = find (has_kind l.kind) (map used (drop l.section-index
    l.self.sections.items)) ≡ find (has_kind l.kind) (map used l.self.sections.items)
