use Rattle.std.proofs.Common.{take, true, [], ◌≡◌}
use Rattle.clap.specs.Words.{App, app_of}
use Rattle.thorin_arguments.{proofs.Rules.added, specs.Grammar.program}
use Rattle.thorin_arguments.proofs.command.command.Given as goal

abbrev pub bare : App
bare = record { top = record program { is_leaf = true }; subs = [] }

-- the commands so far
abbrev pub invariant-loop-line : goal.invariant-loop-line
invariant-loop-line l = app_of l.command ≡ added bare (take l.line-index l.parts)
