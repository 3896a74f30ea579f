use Rattle.dwp_elf.proofs.SoFar.{part_before, so_far_more, so_far_none, so_far_part, Writes-so_far}
use Rattle.{dwp_elf.proofs.ReadingBack.names_of-drop-more, std.proofs.lemmas.List.drop_all}
use Rattle.dwp_elf.{proofs.SoFar.failed, specs.FileText.names_of}
use Rattle.std.proofs.Common.{[], refl, ◌∙◌, ◌∷◌}
use Rattle.dwp_elf.proofs.output.write_name_table.Goals as goal

pub returns-in_err-write_whole-clause-text : goal.returns-in_err-write_whole-clause-text
returns-in_err-write_whole-clause-text g c =
    failed _ _ c.from_residual.ensures.1 (part_before _ c.in_err-write_whole.ensures.text)

pub loop-section-init : goal.loop-section-init
loop-section-init g c = record {
  text = so_far_more (so_far_none _ _) _ (0 ∷ []) _ refl c.in_ok-write_whole.ensures.text;
  error = c.in_ok-write_whole.ensures.error;
}

pub returns-in_err-write_whole-2-clause-text : goal.returns-in_err-write_whole-2-clause-text
returns-in_err-write_whole-2-clause-text g c =
    failed _ _ c.from_residual-in_err-write_whole-2.ensures.1
    (so_far_part c.loop-section.invariant.text _ _ _ (names_of-drop-more _ _ _
    c.loop-section-test.true c.section-item.is _ _ (c.as_bytes.ensures.value ∙ c.name.ensures))
    c.in_err-write_whole-2.ensures.text)

pub returns-in_err-write_whole-3-clause-text : goal.returns-in_err-write_whole-3-clause-text
returns-in_err-write_whole-3-clause-text g c =
    let first = so_far_more c.loop-section.invariant.text _ _ _ (names_of-drop-more _ _ _
    c.loop-section-test.true c.section-item.is _ _ (c.as_bytes.ensures.value ∙ c.name.ensures))
    c.in_ok-write_whole-2.ensures.text in
    failed _ _ c.from_residual-in_err-write_whole-3.ensures.1
    (so_far_part first _ (0 ∷ []) _ refl c.in_err-write_whole-3.ensures.text)

pub loop-section-preserved : goal.loop-section-preserved
loop-section-preserved g c =
    let first = so_far_more c.loop-section.invariant.text _ _ _ (names_of-drop-more _ _ _
    c.loop-section-test.true c.section-item.is _ _ (c.as_bytes.ensures.value ∙ c.name.ensures))
    c.in_ok-write_whole-2.ensures.text in
    record {
      text = so_far_more first _ (0 ∷ []) _ refl c.in_ok-write_whole-3.ensures.text;
      error = λ kind f. c.loop-section.invariant.error kind
          (c.in_ok-write_whole-2.ensures.error kind
          (c.in_ok-write_whole-3.ensures.error kind f));
    }

pub returns-clause-text : goal.returns-clause-text
unfolding names_of
returns-clause-text g c = Writes-so_far c.loop-section.invariant.text _ _
    (rw (drop_all _ _ c.loop-section-test.false) c.write_whole-2.ensures.text)
