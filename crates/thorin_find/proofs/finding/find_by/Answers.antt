use Rattle.thorin_find.{proofs.Sought.exit_is, proofs.Sought.found, specs.Files.Reads}
use Rattle.std.proofs.{Common.inl, Common.inr, Common.refl, KnownBytes.Keeps-refl}
use Rattle.thorin_find.proofs.finding.find_by.Goals as goal

pub returns-in_err-object : goal.returns-in_err-object
returns-in_err-object g c =
    found _ _ _ _ _ c.object-object.ensures _ c.wanted_of-wanted.ensures _ c.from_residual.result
    (rw (c.in_err-object.was, exit_is c.from_residual.ensures.1) (refl, Keeps-refl _))

pub returns-in_err-wanted : goal.returns-in_err-wanted
returns-in_err-wanted g c =
    let exit = c.from_residual-in_err-wanted in
    found _ _ _ _ _ c.object-object.ensures _ c.wanted_of-wanted.ensures _ exit.result
    (rw (c.in_ok-object.was, c.in_err-wanted.was, exit_is exit.ensures.1) (refl, Keeps-refl _))

pub returns-in_err-bytes : goal.returns-in_err-bytes
unfolding Reads
returns-in_err-bytes g c =
    let exit = c.from_residual-in_err-bytes in
    found _ _ _ _ _ c.object-object.ensures _ c.wanted_of-wanted.ensures _ exit.result
    (rw (c.in_ok-object.was, c.in_ok-wanted.was, exit_is exit.ensures.1)
    (inr (c.in_err-bytes.ensures.refused, Keeps-refl _)))

pub returns : goal.returns
unfolding Reads
returns g c =
    found _ _ _ _ _ c.object-object.ensures _ c.wanted_of-wanted.ensures _ c.find_in.result
    (rw (c.in_ok-object.was, c.in_ok-wanted.was) (inl (
      _,
      c.in_ok-bytes.ensures.read,
      rw c.as_slice.ensures.value at c.find_in.ensures,
    )))
