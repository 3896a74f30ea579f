use Rattle.std.proofs.{Common.arith, Common.sym, Common.◌∙◌, lemmas.Grind.common_steps}
use Rattle.{dwp_elf_read.specs.View.section, thorin_input.proofs.Walking.kind-full}
use Rattle.thorin_input.proofs.walk.UsedSections.add.Goals as goal

pub returns : goal.returns
returns c =
    let kind = kind-full (section c.args.section.now) (cc) ∙ sym c.in-Some.ensures in
    grind (arith, common_steps, kind)
