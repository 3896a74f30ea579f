use Rattle.thorin_check.{proofs.Told.exit_is, proofs.Told.then_or, specs.Faults.lacks_abbreviations}
use Rattle.{dwp_table.specs.Columns.contribution_kinds, thorin_check.specs.Faults.lacks_strings}
use Rattle.thorin_check.proofs.Told.{in_turn, stopped_behind, told_all, told_next, told_then}
use Rattle.std.proofs.Common.{not, rules, ◌&&◌, ◌≡◌}
use Rattle.thorin_check.proofs.tables.check_tables.Goals as goal

pub returns-in_err-check_section-2 : goal.returns-in_err-check_section-2
returns-in_err-check_section-2 g c =
    rw (exit_is c.from_residual-in_err-check_section-2.ensures.1) (stopped_behind _
    c.in_ok-check_section.ensures c.in_err-check_section-2.ensures)

pub returns-in_err-check_versions : goal.returns-in_err-check_versions
returns-in_err-check_versions g c =
    rw (exit_is c.from_residual-in_err-check_versions.ensures.1) (stopped_behind _
    c.in_ok-check_section.ensures (stopped_behind _ c.in_ok-check_section-2.ensures
    c.in_err-check_versions.ensures))

pub loop-kind-preserved : goal.loop-kind-preserved
loop-kind-preserved g c =
    told_next _ _ c.loop-kind.kind-index _ c.loop-kind-test.true c.loop-kind.invariant
    (rw c.lacks_column-lacks.ensures at c.in_ok-check_section-3.ensures)

pub returns-in_err-check_section-3 : goal.returns-in_err-check_section-3
returns-in_err-check_section-3 g c =
    rw (exit_is c.from_residual-in_err-check_section-3.ensures.1) (stopped_behind _
    c.in_ok-check_section.ensures (stopped_behind _ c.in_ok-check_section-2.ensures (stopped_behind
    _ c.in_ok-check_versions.ensures (stopped_behind _ c.loop-kind.invariant
    c.in_err-check_section-3.ensures))))

pub returns-in_err-check_rows : goal.returns-in_err-check_rows
returns-in_err-check_rows g c =
    rw (exit_is c.from_residual-in_err-check_rows.ensures.1) (stopped_behind _
    c.in_ok-check_section.ensures (stopped_behind _ c.in_ok-check_section-2.ensures (stopped_behind
    _ c.in_ok-check_versions.ensures (stopped_behind _ c.loop-kind.invariant
    c.in_err-check_rows.ensures))))

pub returns : goal.returns
returns g c =
    let pack = c.args.indexed.pack.now in
    let abbreviations : (not c.is_empty.result && c.is_empty-no_abbreviations.result)
    ≡ lacks_abbreviations pack c.args.indexed.entries.now = grind rules in
    let strings : (not c.is_empty-2.result && c.is_empty-no_strings.result)
    ≡ lacks_strings pack = grind rules in
    let compilations = rw (c.end_of-end.ensures.end, c.compilation_index.ensures.index) at
    c.in_ok-check_rows.ensures in
    let types = rw (c.end_of-end-2.ensures.end, c.type_index.ensures.index) at
    c.check_rows-2.ensures in
    let result = c.check_rows-2.result in
    let columns = told_all _ contribution_kinds c.loop-kind.kind-index c.loop-kind-test.false
    c.loop-kind.invariant in
    then_or _ _ _ _ _ _ _ in_turn result (told_then in_turn
    (rw abbreviations at c.in_ok-check_section.ensures)
    (rw strings at c.in_ok-check_section-2.ensures))
    (then_or _ _ _ _ _ _ _ in_turn result (told_then in_turn c.in_ok-check_versions.ensures
    columns) (then_or _ _ _ _ _ _ _ in_turn result compilations types))
