use Rattle.std.{proofs.Common.drop, proofs.Common.map, specs.Prelude.filter_map, proofs.Common.◌++◌}
use Rattle.{clap.specs.Walk.texts, thorin_arguments.specs.Rules.rule_in, std.proofs.Common.◌≡◌}
use Rattle.thorin_arguments.proofs.command.long_names.Given as goal

-- the names so far, and those of the words that are left
abbrev pub invariant-loop-word : goal.invariant-loop-word
invariant-loop-word l = texts l.names.items
    ++ filter_map (λ rule. rule.long) (map rule_in (drop l.word-index l.words))
    ≡ filter_map (λ rule. rule.long) (map rule_in l.words)
