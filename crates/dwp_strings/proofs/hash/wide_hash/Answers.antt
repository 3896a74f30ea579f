use Rattle.dwp_strings.proofs.Hashed.{mixed_all, mixed_first, mixed_more}
use Rattle.std.proofs.Common.{arith}
use Rattle.dwp_strings.proofs.hash.wide_hash.Goals as goal

pub returns-then-len-gt16 : goal.returns-then-len-gt16
returns-then-len-gt16 c =
    let bytes = c.args.string.now in
    grind (arith, mixed_first bytes, mixed_more bytes 0 16, mixed_all bytes 16)

pub returns-then-len-gt8 : goal.returns-then-len-gt8
returns-then-len-gt8 c = grind (arith, mixed_first c.args.string.now, mixed_all c.args.string.now 0)
