use Rattle.{dwp_base.proofs.Finds.slice_get_none, dwp_elf_read.specs.View.elf, std.specs.Global.Vec}
use Rattle.dwp_decompress.proofs.Sections.{behind_none, drop_step, one_more}
use Rattle.dwp_decompress.proofs.stream.contents.Goals.{in-Some+in_ok-content+in_ok-push}
use Rattle.dwp_decompress.proofs.{Sections.plain_more, stream.contents.Goals.in_default}
use Rattle.dwp_decompress.specs.Result.{contents_of, plain_contents}
use Rattle.std.proofs.Common.{ap, append-nil, arith, drop, Option, refl, sym, ℕ, ◌+◌, ◌∙◌}
use Rattle.std.proofs.{lemmas.List.drop_all, lemmas.Result.err_from_is_err_and}
use Rattle.dwp_decompress.proofs.stream.contents.Goals as goal

pub loop-i-init : goal.loop-i-init
loop-i-init c = rw c.new-contents.ensures.items
    (behind_none (contents_of c.args.asked c.args.class c.args.order
    (elf c.args.file.now).sections))

pub returns-in_err-content : goal.returns-in_err-content
unfolding contents_of
returns-in_err-content c =
    let p = err_from_is_err_and c.from_residual.result c.from_residual.ensures.1 in
    rw (p.1, p.2) (λ h. sym c.loop-i.invariant ∙ rw (
      drop_step (elf c.args.file.now).sections
          c.loop-i.i _ (sym c.in-Some.ensures.found),
      c.in_err-content.ensures h,
    ) refl)

pub loop-i-preserved : goal.loop-i-preserved
unfolding contents_of
loop-i-preserved c =
    let xs = (elf c.args.file.now).sections in
    elim c.match-section.branch [
      | in-Some+in_ok-content+in_ok-push w ↦
          let more = ap (λ (v : Vec (Option (Vec ℕ))). v.items) w.contents-is
          ∙ w.in_ok-push.ensures.items in
          rw (plain_more _ c.loop-i.contents.items w.in_ok-content.content more) (sym (rw (
            drop_step xs c.loop-i.i _ (sym w.in-Some.ensures.found),
            w.in_ok-content.ensures,
          ) (one_more (plain_contents c.loop-i.contents.items) _ (contents_of c.args.asked
          c.args.class c.args.order (drop (c.loop-i.i + 1) xs)))) ∙ c.loop-i.invariant)
      | in_default w ↦ absurd (slice_get_none xs c.loop-i.i (omega arith)
          (sym w.in_default.ensures.found))
    ]

pub returns : goal.returns
unfolding contents_of
returns c = sym c.loop-i.invariant ∙ rw (
  drop_all c.loop-i.i (elf c.args.file.now).sections (omega arith),
  append-nil (plain_contents c.loop-i.contents.items),
) refl
