use Rattle.{dwp_elf.proofs.ReadingBack.content_bytes-drop, std.proofs.lemmas.List.drop_all}
use Rattle.dwp_elf.proofs.SoFar.{failed, so_far_more, so_far_part}
use Rattle.{dwp_elf.specs.FileText.content_bytes, std.proofs.KnownBytes.Appends-nil}
use Rattle.dwp_elf.proofs.output.write_contents.Goals as goal

pub returns-in_err-write_whole-clause-text : goal.returns-in_err-write_whole-clause-text
returns-in_err-write_whole-clause-text g c =
    failed _ _ c.from_residual.ensures.1 (so_far_part c.loop-section.invariant.text _ _ _
    (content_bytes-drop _ _ _
    c.loop-section-test.true c.section-item.is)
    (rw c.deref.ensures.value at c.in_err-write_whole.ensures.text))

pub loop-section-preserved : goal.loop-section-preserved
loop-section-preserved g c =
    record {
      text = so_far_more c.loop-section.invariant.text _ _ _ (content_bytes-drop _ _ _
          c.loop-section-test.true c.section-item.is)
          (rw c.deref.ensures.value at c.in_ok-write_whole.ensures.text);
      error = λ kind f. c.loop-section.invariant.error kind
          (c.in_ok-write_whole.ensures.error kind f);
    }

pub returns-clause-text : goal.returns-clause-text
unfolding content_bytes
returns-clause-text g c = c.loop-section.invariant.text.whole _
    (rw (drop_all _ _ c.loop-section-test.false) (Appends-nil _))
