use Rattle.std.{proofs.Common.arith, proofs.Common.◌-◌, specs.Int.Count.trailing_of_zero}
use Rattle.{dwp_strings.proofs.Lanes.lanes_same_before, std.proofs.Common.eqb-true}
use Rattle.dwp_strings.proofs.search.are_same.Goals as goal

pub returns : goal.returns
returns c = λ is k low less.
    let same = lanes_same_before 32 (omega arith) _ _ c.args.at c.args.at c.requires.first
    c.requires.second (k - c.args.at) (omega arith) (rw (eqb-true _ 0 is)
    (omega (arith, trailing_of_zero 64))) in
    grind arith
