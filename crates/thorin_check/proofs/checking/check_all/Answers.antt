use Rattle.thorin_check.proofs.Told.{exit_is, stopped_behind, told_all, told_next, told_then}
use Rattle.thorin_check.proofs.{Checked.of_printing, Checked.reading_one, Told.in_turn}
use Rattle.thorin_check.proofs.checking.check_all.Goals as goal

pub returns-in_err-check_tables : goal.returns-in_err-check_tables
returns-in_err-check_tables g c =
    let stops = c.in_err-check_tables.ensures in
    rw (exit_is c.from_residual-in_err-check_tables.ensures.1)
    (stopped_behind _ c.in_ok-check_units.ensures
    (of_printing (g.F.FileReader.offer c.args.files.now) _ _ stops.0, stops.1))

pub loop-i-preserved : goal.loop-i-preserved
loop-i-preserved g c =
    told_next _ _ c.loop-i.i _ c.loop-i-test.true c.loop-i.invariant
    c.in_ok-check_executable.ensures

pub returns-in_err-check_executable : goal.returns-in_err-check_executable
returns-in_err-check_executable g c =
    let stops = c.in_err-check_executable.ensures in
    let fails = reading_one (g.F.FileReader.offer c.args.files.now) _ c.loop-i.i _ _
    c.loop-i-test.true stops.0 in
    rw (exit_is c.from_residual-in_err-check_executable.ensures.1) (stopped_behind _
    c.in_ok-check_units.ensures (stopped_behind _ c.in_ok-check_tables.ensures (stopped_behind _
    c.loop-i.invariant (fails, stops.1))))

pub returns : goal.returns
returns g c =
    told_then in_turn c.in_ok-check_units.ensures (told_then in_turn c.in_ok-check_tables.ensures
    (told_all _ c.args.executables.now c.loop-i.i c.loop-i-test.false c.loop-i.invariant))
