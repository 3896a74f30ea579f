use Rattle.dwp_dwarf.proofs.Terms.{err_from_is_err_and, map, sym, ◌∙◌}
use Rattle.thorin_input.specs.NewUnits.{new_units, with_each_section}
use Rattle.thorin_input.specs.{UnitView.adding_of, UnitView.met_of, UnitView.new_of, View.used}
use Rattle.{dwp_base.proofs.Steps.bind-err, std.proofs.lemmas.List.at_drop_more}
use Rattle.thorin_input.proofs.held.NewUnits.read.Goals as goal

-- the first error of a section is that of all
pub returns-in_err-add_section-clause-meaning : goal.returns-in_err-add_section-clause-meaning
unfolding new_units with_each_section
returns-in_err-add_section-clause-meaning c =
    let p = err_from_is_err_and c.from_residual.result c.from_residual.ensures.1 in
    let adding = adding_of c.args.adding.now in
    let at = c.loop-section in
    let all = c.deref-section-items.ensures.value in
    rw (p.1, p.2) (λ other. bind-err _ _ _ (sym at.invariant.0
    ∙ at_drop_more (λ l. with_each_section adding (met_of at.met, new_of at.new) (map used l))
    c.args.adding.now.source.now.object.sections.items at.section-index _
    (rw all at c.loop-section-test.true)
    ∙ bind-err _ _ _ (rw all at (c.in_err-add_section.ensures.meaning other))))
