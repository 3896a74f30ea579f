use Rattle.dwp_dwarf.proofs.{Tables.said, Terms.Err, Terms.None, Terms.Ok, Terms.Some}
use Rattle.dwp_dwarf.proofs.laws.declarations_are_found_first.Goals as goal

pub returns : goal.returns
returns c = record {
  found = λ code i d. said code i (Ok (Some d));
  absent = λ code i. said code i (Ok None);
  error = λ code i e. said code i (Err e);
}
