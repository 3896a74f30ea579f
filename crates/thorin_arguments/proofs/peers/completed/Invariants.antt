use Rattle.std.proofs.Common.{drop, ◌++◌, ◌≡◌}
use Rattle.thorin_arguments.specs.{Asked.words_in, Whole.completed}
use Rattle.{clap.specs.Walk.texts, std.specs.Prelude.if◌then◌else◌}
use Rattle.thorin_arguments.proofs.peers.completed.Given as goal

-- the words so far, and what those that are left come to
abbrev pub invariant-loop-word : goal.invariant-loop-word
invariant-loop-word l = words_in l.whole.items ++ (if l.takes_options
    then completed l.of_llvm (texts l.names.items) (words_in (drop l.word-index l.words))
    else words_in (drop l.word-index l.words))
    ≡ completed l.of_llvm (texts l.names.items) (words_in l.words)
