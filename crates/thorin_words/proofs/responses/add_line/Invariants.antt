use Rattle.std.proofs.Common.{◌≡◌, drop, map}
use Rattle.thorin_words.specs.Responses.{words_in, Leaves}
use Rattle.thorin_words.proofs.responses.add_line.Given as goal

abbrev pub invariant-loop-word : goal.invariant-loop-word
invariant-loop-word g l = record {
  same : words_in l.names ≡ words_in l.fn.names;
  read : Leaves (g.F.ResponseFiles.offer l.files) (g.F.ResponseFiles.fails l.files)
      (words_in l.fn.names) (map g.S.AsStr.text l.line)
      (map g.S.AsStr.text (drop l.word-index l.line)) (words_in l.fn.all) (words_in l.all) l.fn.left
      l.left;
}
