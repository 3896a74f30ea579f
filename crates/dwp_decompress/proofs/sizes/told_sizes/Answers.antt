use Rattle.dwp_decompress.specs.Headers.{told_sizes}
use Rattle.std.proofs.{lemmas.List.drop_all, lemmas.Result.err_from_is_err_and}
use Rattle.dwp_decompress.proofs.Sections.{drop_step, none_plus, plus_more}
use Rattle.std.proofs.Common.{ap, arith, drop, Ok, option_map, refl, sym, ◌+◌, ◌∙◌}
use Rattle.dwp_elf_read.specs.View.{elf, section}
use Rattle.dwp_decompress.proofs.sizes.told_sizes.Goals as goal

pub loop-i-init : goal.loop-i-init
loop-i-init c = none_plus (told_sizes c.args.asked c.args.class c.args.order
    (elf c.args.file.now).sections)

pub returns-in_err-size : goal.returns-in_err-size
unfolding told_sizes
returns-in_err-size c =
    let at = sym c.section.ensures.found ∙ ap (option_map section)
    c.in_ok-section.ensures.ok_part in
    let fails = sym c.loop-i.invariant
    ∙ rw (drop_step _ c.loop-i.i _ at, c.in_err-size.ensures) refl in
    let p = err_from_is_err_and c.from_residual-in_err-size.result
    c.from_residual-in_err-size.ensures.1 in
    record {
      sum = rw (p.1, p.2) (λ m u. fails);
      error = λ n is. let never = sym is ∙ fails in absurd cc;
    }

pub loop-i-preserved : goal.loop-i-preserved
unfolding told_sizes
loop-i-preserved c =
    let sections = (elf c.args.file.now).sections in
    let at = sym c.section.ensures.found ∙ ap (option_map section)
    c.in_ok-section.ensures.ok_part in
    let more = (rw c.in_ok-told.ensures.ok_part at c.checked_add.ensures).1 in
    rw more (sym (rw (drop_step sections c.loop-i.i _ at, c.in_ok-size.ensures)
    (plus_more c.loop-i.told _ (told_sizes c.args.asked c.args.class c.args.order
    (drop (c.loop-i.i + 1) sections)))) ∙ c.loop-i.invariant)

pub returns-clause-sum : goal.returns-clause-sum
unfolding told_sizes
returns-clause-sum c = sym c.loop-i.invariant
    ∙ rw (drop_all c.loop-i.i (elf c.args.file.now).sections (omega arith)) (ap Ok (omega arith))
