use Rattle.std.proofs.Common.{arith}
use Rattle.thorin_words.proofs.Splitting.{anew, at_end, further}
use Rattle.thorin_words.proofs.words.next_word.Goals as goal

pub loop-i-preserved : goal.loop-i-preserved
loop-i-preserved c = grind (
  arith,
  further c.loop-i.word.items c.loop-i.state c.args.text.now c.loop-i.i (omega arith),
)

pub returns-then-not-is_between : goal.returns-then-not-is_between
returns-then-not-is_between c = grind (
  arith,
  anew,
  further c.loop-i.word.items c.loop-i.state c.args.text.now c.loop-i.i (omega arith),
)

pub returns-then-is_between-2 : goal.returns-then-is_between-2
returns-then-is_between-2 c =
    let end = at_end c.loop-i.word.items c.loop-i.state c.args.text.now c.loop-i.i (omega arith) in
    grind (arith, end)

pub returns-else-is_between-2 : goal.returns-else-is_between-2
returns-else-is_between-2 c =
    let end = at_end c.loop-i.word.items c.loop-i.state c.args.text.now c.loop-i.i (omega arith) in
    grind (arith, end)
