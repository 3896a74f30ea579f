use Rattle.std.proofs.Common.{arith, eqb-true, ◌-◌}
use Rattle.dwp_strings.proofs.Lanes.{both_some}
use Rattle.dwp_strings.proofs.buffer.copy_both.Goals as goal

pub returns-clause-some : goal.returns-clause-some
returns-clause-some g c = λ is k low less.
    let some = both_some g.row.N c.requires.few c.args.bytes.now c.args.bytes.now c.args.at
    c.args.other c.requires.first c.requires.second (k - c.args.at) (omega arith)
    (rw (c.copy_lanes-first.ensures.lanes, c.copy_lanes-second.ensures.lanes) at
    (eqb-true _ 0 is)) in
    grind arith

pub returns-clause-others : goal.returns-clause-others
returns-clause-others g c = λ is k low less.
    let some = both_some g.row.N c.requires.few c.args.bytes.now c.args.bytes.now c.args.at
    c.args.other c.requires.first c.requires.second (k - c.args.other) (omega arith)
    (rw (c.copy_lanes-first.ensures.lanes, c.copy_lanes-second.ensures.lanes) at
    (eqb-true _ 0 is)) in
    grind arith
