use Rattle.thorin_join.{proofs.Terms.filter, specs.Builder.is_missing}
use Rattle.std.proofs.Common.{drop, ◌≡◌}
use Rattle.thorin_builder.proofs.missing.first_missing.Given as goal

-- those that were passed over are contained
abbrev pub invariant-loop-place : goal.invariant-loop-place
invariant-loop-place l =
    filter (is_missing l.contained.keys) (drop l.place l.targets.keys) ≡ filter
    (is_missing l.contained.keys) (drop l.fn.start l.targets.keys)
