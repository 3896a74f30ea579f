use Rattle.thorin_commands.{proofs.Lines.followed, specs.Cause.Malformed}
use Rattle.dwp_archive.specs.Texts.{archive_text}
use Rattle.std.proofs.Common.{refl, rules, Some}
use Rattle.thorin_commands.proofs.archives.malformed.Goals as goal

pub returns : goal.returns
returns g c = record {
  cause = Malformed c.args.error;
  is = record { is = refl; no_memory = search rules };
  line = followed g.E.LineOutput.contents c.put_error.new.err c.put_notes.new.err
      (Some (archive_text c.args.error)) (rw c.text.ensures at c.in_default-put_error.ensures.told)
      c.put_notes.ensures;
}
