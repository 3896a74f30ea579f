use Rattle.thorin_c.{proofs.Lists.replaced-next, specs.Finding.found_as, specs.Finding.looked}
use Rattle.std.proofs.Common.{append-nil, arith, map, refl, take_all}
use Rattle.std.proofs.lemmas.List.{drop_all}
use Rattle.thorin_c.proofs.finding.find_each.Goals as goal

pub loop-i-preserved : goal.loop-i-preserved
loop-i-preserved c =
    let f = looked (found_as c.args.wanted) c.in-Ok.file in
    replaced-next f c.loop-i.lookups c.read_ahead.new.lookups (map f c.args.lookups.now)
    c.loop-i.i _ c.complete.new.lookup (omega arith) c.read_ahead.ensures.front
    c.read_ahead.ensures.same c.complete.ensures c.loop-i.invariant

pub returns : goal.returns
returns c = rw c.in-Ok.ensures (
  refl,
  rw (
    take_all c.loop-i.i c.loop-i.lookups (omega arith),
    drop_all c.loop-i.i c.loop-i.lookups (omega arith),
    append-nil,
  ) at c.loop-i.invariant,
)
