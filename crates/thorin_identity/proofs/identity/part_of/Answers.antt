use Rattle.dwp_dwarf.proofs.Terms.{ap, drop, Input, sym, ◌∙◌}
use Rattle.thorin_identity.proofs.Cut.{cut, passed_over, none_left}
use Rattle.thorin_identity.proofs.identity.part_of.Goals as goal

pub returns-then-is_err : goal.returns-then-is_err
returns-then-is_err g c =
    ap (λ (i : Input). i.bytes) c.empty.ensures
    ∙ sym (none_left c.skip.result _ _ c.args.start c.skip.ensures
    (sym c.is_err.ensures.value ∙ c.if-is_err.true))
    ∙ ap (drop c.args.start) (cut c.truncate-is_cut.result _ _ c.args.end c.truncate-is_cut.ensures)

pub returns-else-is_err : goal.returns-else-is_err
returns-else-is_err g c =
    passed_over c.skip.result _ _ c.args.start c.skip.ensures
    (sym c.is_err.ensures.value ∙ c.if-is_err.false)
    ∙ ap (drop c.args.start) (cut c.truncate-is_cut.result _ _ c.args.end c.truncate-is_cut.ensures)
