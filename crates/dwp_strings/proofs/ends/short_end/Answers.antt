use Rattle.std.proofs.Common.{arith, refl, ◌*◌, ◌+◌, ◌-◌}
use Rattle.{dwp_strings.proofs.Lanes.lanes, std.proofs.lemmas.Bool.cases_lt}
use Rattle.dwp_strings.proofs.ends.short_end.Goals as goal

pub returns-then-some-lt-LANES-clause-some : goal.returns-then-some-lt-LANES-clause-some
returns-then-some-lt-LANES-clause-some c =
    let at = c.loop-round.round * 64 in
    record {
      within = omega arith;
      ended = (lanes c.args.bytes.now at 64 (omega arith) (omega arith) _
          c.if-some-lt-LANES.true).1 refl;
      before = λ k less.
          let some = lanes c.args.bytes.now at 64 (omega arith) (omega arith) (k - at) in
          grind (arith, some, c.loop-round.invariant.some k, cases_lt k at);
    }

pub loop-round-preserved : goal.loop-round-preserved
loop-round-preserved c =
    let at = c.loop-round.round * 64 in
    record {
      within = omega arith;
      some = λ k less.
          let some = lanes c.args.bytes.now at 64 (omega arith) (omega arith) (k - at) in
          grind (arith, some, c.loop-round.invariant.some k, cases_lt k at);
    }

pub returns-then-some-lt-LANES-clause-near : goal.returns-then-some-lt-LANES-clause-near
returns-then-some-lt-LANES-clause-near c =
    let next = c.loop-round.round + 1 in
    record { steps = next; few = omega arith; within = omega arith; before = omega arith }
