use Rattle.dwp_elf.proofs.ReadingBack.{length-content_bytes-drop, length-name_of}
use Rattle.{dwp_elf.proofs.ReadingBack.length-names_of-drop, std.proofs.lemmas.List.drop_all}
use Rattle.std.proofs.{Common.arith, lemmas.Grind.common_steps}
use Rattle.dwp_elf.specs.FileText.{content_bytes, names_of}
use Rattle.dwp_elf.proofs.output.sizes_of.Goals as goal

pub returns-in_err-contents-clause-contents : goal.returns-in_err-contents-clause-contents
returns-in_err-contents-clause-contents c =
    grind (arith, common_steps, length-content_bytes-drop)

pub loop-section-preserved : goal.loop-section-preserved
loop-section-preserved c =
    let step = length-content_bytes-drop _ _ _ c.loop-section-test.true c.section-item.is in
    record {
      contents_left = omega (arith, step, c.section-item.result.1.ok.0, c.in_ok-contents.ensures.1);
      names_left = grind (arith, length-names_of-drop, length-name_of);
      small = grind (arith, length-names_of-drop, length-name_of);
    }

pub returns-clause-contents : goal.returns-clause-contents
unfolding content_bytes
returns-clause-contents c =
    let none = drop_all _ _ c.loop-section-test.false in
    omega (arith, rw none at c.loop-section.invariant.contents_left)

pub returns-clause-names : goal.returns-clause-names
unfolding names_of
returns-clause-names c =
    let none = drop_all _ _ c.loop-section-test.false in
    omega (arith, rw none at c.loop-section.invariant.names_left)
