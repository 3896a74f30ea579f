use Rattle.thorin_inputs.proofs.overlaps.InnerStrings.add.Goals.{else-branch, then-branch}
use Rattle.thorin_inputs.proofs.Counted.{summed_more, summed_same}
use Rattle.std.proofs.Common.{arith}
use Rattle.thorin_inputs.proofs.overlaps.InnerStrings.add.Goals as goal

pub returns-clause-summed : goal.returns-clause-summed
returns-clause-summed c =
    let was = c.args.self.now in
    elim c.if-branch.branch [
      | then-branch w ↦ rw w.self-is (summed_more was.strings.now was.places c.insert.new.self
          c.args.place was.size c.requires.summed c.in_ok-insert.ensures.updates w.size_at.result
          w.size_at.ensures (grind (arith, c.in_ok-insert.ensures.added, w.if-branch.true)))
      | else-branch w ↦ rw w.self-is (summed_same was.strings.now was.places c.insert.new.self
          c.args.place was.size c.requires.summed c.in_ok-insert.ensures.updates
          (grind (arith, c.in_ok-insert.ensures.added, w.if-branch.false)))
    ]
