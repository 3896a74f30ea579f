use Rattle.std.proofs.{Common.arith, lemmas.Result.err_from_is_err_and}
use Rattle.thorin_strings.specs.Known.{fitting_read, offset_read}
use Rattle.thorin_strings.proofs.table.PackageStringTable.fitting_offset.Goals as goal

pub returns-in_err-offset-clause-meaning : goal.returns-in_err-offset-clause-meaning
unfolding fitting_read offset_read
returns-in_err-offset-clause-meaning c =
    let was = err_from_is_err_and c.from_residual.result c.from_residual.ensures.1 in
    rw (was.1, was.2) (λ other. let read = c.in_err-offset.ensures.meaning other in grind arith)
