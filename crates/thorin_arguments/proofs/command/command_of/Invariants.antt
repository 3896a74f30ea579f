use Rattle.std.proofs.Common.{take, ◌≡◌}
use Rattle.{clap.specs.Words.app_of, thorin_arguments.specs.Rules.app_of_words}
use Rattle.thorin_arguments.proofs.command.command_of.Given as goal

-- the words so far
abbrev pub invariant-loop-word : goal.invariant-loop-word
invariant-loop-word l = app_of l.command
    ≡ app_of_words l.line.name.now (take l.word-index l.line.words.now)
