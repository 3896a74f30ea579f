use Rattle.std.proofs.Common.{length, ◌≡◌}
use Rattle.dwp_base.{proofs.KindsRead.ReadBelow, specs.ByKind.values_of}
use Rattle.dwp_base.proofs.by_kind.ByKind.read.Given as goal

abbrev pub invariant-loop-kind : goal.invariant-loop-kind
invariant-loop-kind g l =
    (length (values_of l.values) ≡ 13)
    × ReadBelow (goal.F-post g l.f) (values_of l.values) l.kind-index
