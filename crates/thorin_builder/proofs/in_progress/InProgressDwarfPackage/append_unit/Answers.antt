use Rattle.{std.proofs.Common.◌∙◌, thorin_index.proofs.Held.at_least}
use Rattle.{std.proofs.Math.Seq.take-append_seam, thorin_join.proofs.Terms.take-append-le}
use Rattle.thorin_builder.proofs.in_progress.InProgressDwarfPackage.append_unit.Goals as goal

pub returns-in-Ok-clause-extends : goal.returns-in-Ok-clause-extends
returns-in-Ok-clause-extends c before h = record {
  file = c.append.ensures.grown before.file h.file;
  strings = h.strings;
  rows = rw c.in_ok-push.ensures.pushed (take-append-le _ c.args.self.now.rows _
      (at_least before.rows c.args.self.now.rows h.rows) ∙ h.rows);
  differing = h.differing;
}

pub returns-in-Err-clause-extends : goal.returns-in-Err-clause-extends
returns-in-Err-clause-extends c before h = record {
  file = c.append.ensures.grown before.file h.file;
  strings = h.strings;
  rows = rw (c.truncate.ensures, c.in_ok-push.ensures.pushed, c.len-count.ensures, take-append_seam)
      h.rows;
  differing = h.differing;
}
