use Rattle.{std.proofs.Common.arith, thorin_c.specs.Finding.found_as, std.proofs.Common.◌∙◌}
use Rattle.{std.proofs.lemmas.List.take-set-le, thorin_c.proofs.Lists.status_left}
use Rattle.thorin_c.proofs.finding.read_ahead.Goals as goal

pub loop-i-preserved : goal.loop-i-preserved
loop-i-preserved c = record {
  front = rw (take-set-le c.args.start c.loop-i.lookups c.loop-i.i _ (omega arith))
      c.loop-i.invariant.front;
  same = status_left (found_as c.args.wanted) c.args.file.now c.loop-i.lookups c.loop-i.i _ _
      (omega arith) ∙ c.loop-i.invariant.same;
}
