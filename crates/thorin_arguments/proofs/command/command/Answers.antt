use borrow.Rule.Slice.PartMut.{mid_of}
use Rattle.std.proofs.Common.{ap, arith, true, ◌∙◌, ◌≡◌}
use Rattle.std.{proofs.lemmas.List.take_all, proofs.lemmas.Result.IfOk-weaker, specs.Prelude.fold}
use Rattle.clap.specs.{Simple.app_of_fields, Words.App, Words.app_of, Words.with_subcommand}
use Rattle.thorin_arguments.specs.Grammar.{IsThorin, thorin}
use Rattle.thorin_arguments.proofs.Rules.{add_line, added, first_line, other_lines}
use Rattle.thorin_arguments.proofs.command.command.Invariants.{bare}
use Rattle.thorin_arguments.proofs.command.command.Goals as goal

pub loop-line-init : goal.loop-line-init
loop-line-init c =
    let lines = c.lines-lines.ensures in
    ap app_of_fields c.subcommand_required-command.ensures
    ∙ (ap (λ (a : App). record a { top = record a.top { subcommand_required = true } })
    (ap app_of_fields c.version.ensures)
    ∙ ap (λ (a : App). record a {
      top = record a.top { subcommand_required = true; has_version = true };
    }) (c.in_ok-command_of.ensures ∙ first_line c.lines-lines.result.now _ lines.0 lines.2))

pub loop-line-preserved : goal.loop-line-preserved
loop-line-preserved c = add_line bare (mid_of 1 4 c.lines-lines.result.now)
    c.loop-line.line-index _ c.loop-line.command c.in_ok-command.command c.in-Ok.part
    (omega (arith, c.loop-line-test.true)) c.loop-line.invariant c.in_ok-command.ensures
    c.in-Ok.ensures

pub returns : goal.returns
unfolding thorin
returns c =
    let lines = c.lines-lines.ensures in
    let all : app_of c.loop-line.command ≡ thorin lines.0 = c.loop-line.invariant
    ∙ (ap (added bare) (take_all c.loop-line.line-index
    (mid_of 1 4 c.lines-lines.result.now) (omega (arith, c.loop-line-test.false)))
    ∙ ap (fold with_subcommand bare) (other_lines c.lines-lines.result.now lines.0 lines.2)) in
    IfOk-weaker c.bin_name.result _ (λ d. IsThorin (app_of d))
    (λ d h. (lines.0, lines.1, ap app_of_fields h.0 ∙ all)) c.bin_name.ensures
