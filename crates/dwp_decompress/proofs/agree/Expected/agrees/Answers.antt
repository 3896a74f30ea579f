use Rattle.dwp_elf_read.{proofs.Compared.same_file, specs.View.elf, specs.View.section}
use Rattle.dwp_decompress.proofs.Sections.{drop_step, get_content}
use Rattle.std.proofs.Common.{ap, arith, option_map, refl, rules, Some, sym, ◌∙◌}
use Rattle.std.proofs.lemmas.List.{drop_all}
use Rattle.dwp_decompress.specs.Result.{plain_contents, result_file, result_sections}
use Rattle.dwp_decompress.proofs.agree.Expected.agrees.Goals as goal

pub loop-i-preserved : goal.loop-i-preserved
unfolding result_sections
loop-i-preserved c h =
    let e = c.args.self.now in
    let i = c.loop-i.i in
    let at = sym c.section.ensures.found ∙ ap (option_map section) c.in-Some-Some.is-0 in
    let is = sym c.section-in-loop-i.ensures.found ∙ ap (option_map section) c.in-Some-Some.is-1
    ∙ ap Some (c.is_result.ensures c.if-not-is_result.false) in
    let content = get_content e.contents.now.items i c.index.result.now (omega arith)
    c.index.ensures in
    c.loop-i.invariant (rw (
      drop_step (elf c.args.new.now).sections i _ is,
      drop_step (elf c.args.old.now).sections i _ at,
      drop_step (plain_contents e.contents.now.items) i _ content,
      h,
    ) refl)

pub returns : goal.returns
unfolding result_file result_sections
returns c t =
    let e = c.args.self.now in
    let old = elf c.args.old.now in
    let new = elf c.args.new.now in
    let alike = c.is_like.ensures.alike.0 (search rules) in
    same_file new old _ alike.0 alike.1 alike.2 (c.loop-i.invariant (rw (
      drop_all c.loop-i.i new.sections (omega arith),
      drop_all c.loop-i.i old.sections (omega arith),
    ) refl))
