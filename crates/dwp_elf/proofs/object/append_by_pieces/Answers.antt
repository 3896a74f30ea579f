use Rattle.std.proofs.Common.{arith, append_assoc, take-add}
use Rattle.dwp_elf.proofs.object.append_by_pieces.Goals as goal

pub loop-at-preserved : goal.loop-at-preserved
loop-at-preserved c = record {
  within = grind arith;
  so_far = grind (arith, append_assoc, take-add c.loop-at.at c.min.result c.args.bytes.now);
  room = grind arith;
}
