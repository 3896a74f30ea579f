use Rattle.thorin_inputs.proofs.overlaps.InnerStrings.count_by.Goals.{else-begins_inside-via-then-begins_inside+in_ok-add+else-branch}
use Rattle.thorin_inputs.proofs.overlaps.InnerStrings.count_by.Goals.{else-begins_inside-via-else-begins_inside}
use Rattle.thorin_inputs.proofs.Counted.{among, counted_one, left_more, word_counted, word_passed}
use Rattle.std.proofs.{Common.arith, Common.sym, Common.◌∙◌, lemmas.List.take_rest}
use Rattle.thorin_inputs.proofs.Counted.{left_same}
use Rattle.thorin_inputs.proofs.overlaps.InnerStrings.count_by.Goals as goal

pub returns-then-branch : goal.returns-then-branch
returns-then-branch c =
    let was = c.loop-number.invariant in
    let now = c.in_ok-add.ensures in
    let is = rw take_rest at c.read_u32-place.ensures in
    record {
      strings = now.strings ∙ was.same;
      file = now.file ∙ was.file;
      summed = now.summed;
      past = rw was.file at (sym c.if-branch.true ∙ now.past);
      only = among was _ (counted_one {new = c.add.new.self} _ now.strings now.file now.summed
          now.past now.all)
          (word_counted c.args.order c.args.step c.args.offsets.now c.args.self.now.strings.now is
          (omega arith) (sym c.if-begins_inside.ensures));
      all = λ none at. absurd cc;
    }

pub loop-number-preserved : goal.loop-number-preserved
loop-number-preserved c =
    let was = c.loop-number.invariant in
    let is = rw take_rest at c.read_u32-place.ensures in
    elim c.else-begins_inside.branch [
      | else-begins_inside-via-then-begins_inside+in_ok-add+else-branch w ↦ (
          let now = w.in_ok-add.ensures in
          rw w.self-is (left_more was _
          (counted_one _ now.strings now.file now.summed now.past now.all)
          (word_counted c.args.order c.args.step c.args.offsets.now c.args.self.now.strings.now is
          (omega arith) (sym w.if-begins_inside.ensures)) w.if-branch.false)
          )
      | else-begins_inside-via-else-begins_inside w ↦ rw w.self-is
          (left_same was (word_passed c.args.order c.args.step c.args.offsets.now
          c.args.self.now.strings.now is (omega arith) (sym w.if-begins_inside.ensures)))
    ]
