use Rattle.{dwp_strings.proofs.Lanes.lanes, std.proofs.Common.arith, std.proofs.Common.leb-true}
use Rattle.dwp_strings.proofs.buffer.copy_ended.Goals as goal

pub returns-then-end-lt-HALF : goal.returns-then-end-lt-HALF
returns-then-end-lt-HALF c =
    let one = c.copy_lanes-first.ensures in
    record {
      first = λ is. record {
        within = c.requires.within;
        ended = c.requires.ended;
        before = λ k less.
            let some = lanes c.args.bytes.now 0 32 (omega arith) (omega arith) k in
            grind (arith, some, leb-true _ _ (rw one.lanes at is));
      };
      copied = λ is k less. one.copied k (omega arith) (omega arith);
      long = one.long;
    }
