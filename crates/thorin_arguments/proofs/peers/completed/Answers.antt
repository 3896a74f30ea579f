use Rattle.std.proofs.Common.{ap₂, arith, sym, ◌∙◌, ◌≡◌}
use Rattle.thorin_arguments.specs.{Asked.words_in, Whole.completed}
use Rattle.{clap.specs.Walk.texts, std.proofs.lemmas.Grind.common_steps}
use Rattle.thorin_arguments.proofs.peers.completed.Goals as goal

pub returns : goal.returns
returns c = λ app line.
    let own : words_in c.loop-word.whole.items
    ≡ completed c.is_of_llvm-of_llvm.result (texts c.in_ok-names.names.items)
    (words_in c.args.words.now) = grind (arith, common_steps) in
    ap₂ (λ b names. completed b names (words_in c.args.words.now))
    (sym c.is_of_llvm-of_llvm.ensures) (sym (c.in_ok-names.ensures app line)) ∙ sym own
