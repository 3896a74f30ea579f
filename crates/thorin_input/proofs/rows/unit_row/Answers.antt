use Rattle.dwp_dwarf.proofs.Terms.{ap, Err, err_from_is_err_and, Ok, rules, sym, ◌∙◌}
use Rattle.thorin_input.proofs.RowContributions.{plain-row, row-read}
use Rattle.thorin_input.specs.View as view
use Rattle.thorin_input.proofs.rows.unit_row.Goals as goal

pub returns-in-None-None-clause-meaning : goal.returns-in-None-None-clause-meaning
returns-in-None-None-clause-meaning c = plain-row (view.indexes c.args.indexes.now)
    c.args.whole.now.row c.args.name c.in-None-None.is-0 c.in-None-None.is-1

pub returns-in_err-contributions-clause-meaning : goal.returns-in_err-contributions-clause-meaning
returns-in_err-contributions-clause-meaning c =
    let p = err_from_is_err_and c.from_residual.result c.from_residual.ensures.1 in
    let refused = c.in_err-contributions.ensures in
    rw (p.1, p.2) (λ other. row-read (view.indexes c.args.indexes.now) c.args.whole.now.row
    c.args.name (Err _) (
      refused.0,
      refused.1,
      refused.2,
      (let read = refused.3 in search rules),
      λ before kind lt at.
          let earlier = refused.4 before kind lt at in
          let read = earlier.1 in (earlier.0, search rules),
    ))

pub returns-clause-meaning : goal.returns-clause-meaning
returns-clause-meaning c =
    let read = c.in_ok-contributions.ensures in
    row-read (view.indexes c.args.indexes.now) c.args.whole.now.row c.args.name
    (Ok c.in_ok-contributions.contributions)
    (read.0, λ kind. let at = read.1 kind in let there = at.2 in (at.0, at.1, search rules))
    ∙ ap Ok (sym c.by_kind.ensures)
