use Rattle.std.proofs.{Common.inr, Common.Ok, Common.rules, lemmas.Result.err_from_is_err_and}
use Rattle.thorin_builder.proofs.Inputs.{declined-as, list-error, none-taken}
use Rattle.thorin_builder.proofs.package.DwarfPackage.add_executable_as.Goals as goal

pub returns-in_err-units-clause-taken : goal.returns-in_err-units-clause-taken
returns-in_err-units-clause-taken g c =
    let p = err_from_is_err_and c.from_residual-in_err-units.result
    c.from_residual-in_err-units.ensures.1 in
    let named = list-error (none-taken _ _ _ _) _ c.in_err-units.ensures.opened in
    rw (p.1, p.2) (record {
      read = Ok c.in_ok-bytes.bytes.now;
      within = c.in_ok-bytes.ensures.read;
      accepted = named.0;
      taken = named.1;
    })

pub returns : goal.returns
returns g c = record {
  taken = record {
    read = Ok c.in_ok-bytes.bytes.now;
    within = c.in_ok-bytes.ensures.read;
    accepted = c.add_each-added.ensures.taken.0;
    taken = rw c.in_ok-units.ensures.opened c.add_each-added.ensures.taken.1;
  };
  declined = declined-as c.add_each-added.result (λ why h.
      inr (c.in_ok-bytes.bytes.now, c.in_ok-bytes.ensures.read, rw c.in_ok-units.ensures.opened h)
      ) c.add_each-added.ensures.declined;
  session = search rules;
}
