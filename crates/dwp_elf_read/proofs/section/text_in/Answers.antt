use Rattle.std.proofs.Common.{Some, None, option_map, sym, ap, ◌∙◌}
use Rattle.dwp_elf_read.specs.Elf.{text_of}
use Rattle.dwp_elf_read.proofs.ShortNames.{text_at_first, text_of_result}
use Rattle.dwp_elf_read.proofs.section.text_in.Goals as goal

pub returns-in_err-end : goal.returns-in_err-end
returns-in_err-end c =
    rw c.from_residual.ensures (sym (text_at_first c.args.table.now c.split_at.result.1.now
    c.args.place None c.split_at.ensures.back c.in_err-end.ensures))

pub returns : goal.returns
returns c =
    ap (option_map (λ text. text.now)) c.ok.ensures.value
    ∙ text_of_result (λ text. text.now) _ c.split_at-2.result.0.now c.from_utf8.result
    c.from_utf8.ensures.cases ∙ ap text_of c.split_at-2.ensures.front
    ∙ sym (text_at_first c.args.table.now c.split_at.result.1.now c.args.place
    (Some c.in_ok-end.end) c.split_at.ensures.back c.in_ok-end.ensures)
