use Rattle.std.proofs.Common.{map, rules, arith, refl, ap, ◌∙◌}
use Rattle.std.proofs.lemmas.List.{drop_all}
use Rattle.thorin_words.proofs.Standing.{begin, onward, ended, stopped_at, texts-drop}
use Rattle.thorin_words.proofs.responses.add_line.Goals as goal

pub loop-word-init : goal.loop-word-init
loop-word-init g c = record { same = refl; read = begin }

pub returns-in_err-left : goal.returns-in_err-left
returns-in_err-left g c =
    let split = texts-drop g.S.AsStr.text c.args.line.now c.loop-word.word-index
    c.word-item.result c.as_str.result.now c.loop-word-test.true c.word-item.is c.as_str.ensures in
    let stop = stopped_at c.loop-word.invariant.read split c.loop-word.invariant.same
    c.in_err-left.field-0.0 c.in_err-left.ensures.read in
    search rules

pub loop-word-preserved : goal.loop-word-preserved
loop-word-preserved g c =
    let split = texts-drop g.S.AsStr.text c.args.line.now c.loop-word.word-index
    c.word-item.result c.as_str.result.now c.loop-word-test.true c.word-item.is c.as_str.ensures in
    record {
      same = c.in_ok-left.ensures.names ∙ c.loop-word.invariant.same;
      read = onward c.loop-word.invariant.read split c.loop-word.invariant.same _ _
          c.in_ok-left.ensures.read;
    }

pub returns : goal.returns
returns g c = ended c.loop-word.invariant.read
    (ap (map g.S.AsStr.text) (drop_all c.loop-word.word-index c.args.line.now (omega arith)))
