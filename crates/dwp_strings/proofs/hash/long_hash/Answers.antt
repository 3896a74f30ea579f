use Rattle.dwp_strings.proofs.Hashed.{mixed_all, mixed_more}
use Rattle.std.proofs.Common.{arith, ◌+◌}
use Rattle.dwp_strings.proofs.hash.long_hash.Goals as goal

pub loop-at-preserved : goal.loop-at-preserved
loop-at-preserved c =
    let bytes = c.args.bytes.now in
    let at = c.loop-at.at in
    record {
      whole = omega (arith, c.loop-at.invariant.whole);
      within = omega arith;
      so_far = grind (arith, mixed_more bytes at (at + 16), mixed_more bytes (at + 16) (at + 32));
    }

pub returns-then-len-at-gt16 : goal.returns-then-len-at-gt16
returns-then-len-at-gt16 c =
    let bytes = c.args.bytes.now in
    let at = c.loop-at.at in
    grind (arith, mixed_all bytes (at + 16), mixed_more bytes at (at + 16))

pub returns : goal.returns
returns c = grind (arith, mixed_all c.args.bytes.now c.loop-at.at)
