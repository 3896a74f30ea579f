use Rattle.std.proofs.{Common.arith, lemmas.Option.slice_get-get_or}
use Rattle.dwp_base.specs.{ByKind.values_of, Sections.all_kinds}
use Rattle.dwp_base.proofs.KindsRead.{read-all, read-more}
use Rattle.dwp_base.proofs.by_kind.ByKind.read.Goals as goal

pub returns-in-Err : goal.returns-in-Err
returns-in-Err g c = (
  c.loop-kind.kind-index,
  _,
  slice_get-get_or all_kinds c.loop-kind.kind-index _
      (omega (arith, c.loop-kind-test.true)),
  c.in-Err.ensures,
  λ before other lt at.
      let read = c.loop-kind.invariant.1 before other lt at in (read.0, read.2),
)

pub loop-kind-preserved : goal.loop-kind-preserved
loop-kind-preserved g c =
    read-more {E = g.row.E.Denot} (goal.F-post g c.args.f) (values_of c.loop-kind.values) _
    c.loop-kind.kind-index _ _
    c.loop-kind.invariant.0 c.loop-kind-test.true
    (slice_get-get_or all_kinds c.loop-kind.kind-index _ (omega (arith, c.loop-kind-test.true)))
    c.set.ensures.values c.in-Ok.ensures c.loop-kind.invariant.1

pub returns : goal.returns
returns g c = (
  c.loop-kind.invariant.0,
  read-all {E = g.row.E.Denot} (goal.F-post g c.args.f) (values_of c.loop-kind.values)
      (λ place kind lt.
      c.loop-kind.invariant.1 place kind (omega (arith, lt, c.loop-kind-test.false))),
)
