use Rattle.std.proofs.Common.{drop, length, ◌*◌, ◌+◌, ◌-◌, ◌≡◌, ◌≤◌}
use Rattle.thorin_words.specs.{Responses.Leaves, Responses.words_in, Words.words_of}
use Rattle.thorin_words.proofs.responses.+responses.Given as goal

abbrev pub decreases-add_text : goal.decreases-add_text
decreases-add_text g l = 2 * l.left.files + 1

abbrev pub decreases-add_word : goal.decreases-add_word
decreases-add_word g l = 2 * l.left.files

-- what the words stand for that were read, in front of what the rest does
abbrev pub invariant-add_text-loop-word : goal.invariant-add_text-loop-word
invariant-add_text-loop-word g l = record {
  within : l.at ≤ length l.text;
  fewer : l.left.files ≤ l.fn.left.files;
  same : words_in l.names ≡ words_in l.fn.names;
  read : Leaves (g.F.ResponseFiles.offer l.files) (g.F.ResponseFiles.fails l.files)
      (words_in l.fn.names) (words_of l.text) (words_of (drop l.at l.text)) (words_in l.fn.all)
      (words_in l.all) l.fn.left l.left;
}

abbrev pub decreases-add_text-loop-word : goal.decreases-add_text-loop-word
decreases-add_text-loop-word g l = length l.text - l.at
