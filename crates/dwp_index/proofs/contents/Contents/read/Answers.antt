use Rattle.dwp_base.{proofs.KindsRead.answers-each, specs.Reading.Answers}
use Rattle.dwp_index.specs.Contents.{content_among, contents_of}
use Rattle.std.proofs.Common.{Err, Ok, rules, sym}
use Rattle.dwp_elf_read.specs.View.{elf}
use Rattle.dwp_index.proofs.contents.Contents.read.Goals as goal

pub returns-in-Ok : goal.returns-in-Ok
unfolding contents_of content_among
returns-in-Ok c =
    let content = content_among (elf c.args.file.now).sections in
    answers-each (λ bytes. bytes.now) content (λ kind r. Answers (λ bytes. bytes.now) r
    (content kind)) (λ kind r means. means) (Ok c.in-Ok.by_kind) (
      c.in-Ok.ensures.0,
      λ kind. let read = c.in-Ok.ensures.1 kind in let met = read.2 in
          (read.0, read.1, rw (sym (c.first_sections-firsts.ensures.first kind)) (search rules)),
    )

pub returns-in-Err : goal.returns-in-Err
unfolding contents_of content_among
returns-in-Err c =
    let content = content_among (elf c.args.file.now).sections in
    let fails = c.in-Err.ensures.3 in answers-each (λ bytes. bytes.now) content (λ kind r. Answers
    (λ bytes. bytes.now) r (content kind)) (λ kind r means. means) (Err c.in-Err.e) (
      c.in-Err.ensures.0,
      c.in-Err.ensures.1,
      c.in-Err.ensures.2,
      rw (sym (c.first_sections-firsts.ensures.first c.in-Err.ensures.1)) (search rules),
      λ before other lt at. let read = c.in-Err.ensures.4 before other lt at in let met = read.1 in
          (read.0, rw (sym (c.first_sections-firsts.ensures.first other)) (search rules)),
    )
