use Rattle.dwp_strings.proofs.Lanes.{lanes_same_before, same_fronts}
use Rattle.std.proofs.Common.{arith, leb-true}
use Rattle.dwp_strings.proofs.search.begins_same.Goals as goal

pub returns-then-count-lt-LANES : goal.returns-then-count-lt-LANES
returns-then-count-lt-LANES c = λ is.
    let same = lanes_same_before 32 (omega arith) c.args.bytes.now c.args.other.now 0 0
    (omega arith) (omega arith) in
    same_fronts _ _ c.args.count c.requires.first (omega arith)
    (λ k less. grind (arith, same k, leb-true))

pub returns : goal.returns
returns c = λ is. same_fronts _ _ c.args.count c.requires.first c.requires.second
    (λ k less. grind (arith, c.are_same-2.ensures is k, c.loop-at.invariant k))
