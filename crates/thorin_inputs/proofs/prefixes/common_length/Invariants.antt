use Rattle.std.proofs.Common.{◌≡◌, ◌+◌, drop}
use Rattle.std.specs.{List.common_prefix_len, Prelude.◌==◌}
use Rattle.thorin_inputs.proofs.prefixes.common_length.Given as goal

abbrev pub invariant-loop-i : goal.invariant-loop-i
invariant-loop-i l = l.i + common_prefix_len (λ x y. x == y) (drop l.i l.a) (drop l.i l.b)
    ≡ common_prefix_len (λ x y. x == y) l.a l.b
