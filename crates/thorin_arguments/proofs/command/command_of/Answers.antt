use Rattle.std.proofs.Common.{ap, arith, ◌∙◌}
use Rattle.thorin_arguments.{proofs.Rules.add_word, specs.Rules.app_of_words}
use Rattle.{clap.specs.Simple.app_of_fields, std.proofs.lemmas.List.take_all}
use Rattle.thorin_arguments.proofs.command.command_of.Goals as goal

pub loop-word-init : goal.loop-word-init
loop-word-init c = ap app_of_fields c.after_help-command.ensures
    ∙ (ap app_of_fields c.about.ensures ∙ c.new.ensures.app)

pub loop-word-preserved : goal.loop-word-preserved
loop-word-preserved c = add_word c.args.line.now.name.now c.args.line.now.words.now
    c.loop-word.word-index _ c.loop-word.command c.in_ok-command.command c.arg_of.result
    (omega (arith, c.loop-word-test.true)) c.loop-word.invariant c.in_ok-command.ensures
    c.arg_of.ensures

pub returns : goal.returns
returns c = c.loop-word.invariant ∙ ap (app_of_words c.args.line.now.name.now)
    (take_all c.loop-word.word-index c.args.line.now.words.now (omega arith))
