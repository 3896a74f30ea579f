use Rattle.std.proofs.{Common.map, lemmas.List.append_assoc, lemmas.List.map-append, Common.◌≡◌}
use Rattle.thorin_arguments.{proofs.Rules.are_long_names, proofs.Rules.longs, specs.Rules.rule_in}
use Rattle.{clap.specs.Walk.texts, std.proofs.Common.arith, std.proofs.lemmas.Grind.common_steps}
use Rattle.thorin_arguments.proofs.command.long_names.Goals as goal

pub returns : goal.returns
returns c =
    let words = c.peer_words-words.result.now in
    let own : texts c.loop-word.names.items ≡ longs (map rule_in words) =
    grind (arith, common_steps) in
    are_long_names c.args.peer.now words (texts c.loop-word.names.items)
    (texts c.push-3.new.self.items) (rw c.is_of_llvm.ensures at c.peer_words-words.ensures) own
    (rw (c.in_ok-push-3.ensures.items, c.in_ok-push-2.ensures.items)
    (simp (map-append, append_assoc)))
