use Rattle.std.proofs.{Common.arith, lemmas.Int.ints, lemmas.Int.to_z-of_z}
use Rattle.thorin_c.proofs.Files.{told_early}
use Rattle.thorin_c.proofs.decompressing.thorin_decompress.Goals as goal

pub returns-in-Err-clause-error : goal.returns-in-Err-clause-error
returns-in-Err-clause-error c =
    told_early c.args.bytes.now c.in-Err.error _ c.in-Err.ensures.length
    (search (arith, ints, to_z-of_z, c.status_of.ensures))
