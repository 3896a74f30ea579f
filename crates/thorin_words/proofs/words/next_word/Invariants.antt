use Rattle.std.proofs.Common.{◌≡◌, drop, false, ◌<◌}
use Rattle.thorin_words.specs.Words.{is_between, words_from, words_of}
use Rattle.thorin_words.proofs.Splitting.{prefix}
use Rattle.thorin_words.proofs.words.next_word.Given as goal

-- the words from the start on are those that the rest has, behind what was read of the present one
abbrev pub invariant-loop-i : goal.invariant-loop-i
invariant-loop-i l = record {
  words : words_of (drop l.start l.text) ≡ prefix l.word.items
      (words_from l.state (drop l.i l.text));
  begun : is_between l.state ≡ false → l.start < l.i;
}
