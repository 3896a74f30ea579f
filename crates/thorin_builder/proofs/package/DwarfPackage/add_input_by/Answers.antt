use Rattle.thorin_builder.specs.{Taking.accepted_of}
use Rattle.std.proofs.Common.{Ok, refl, rules}
use Rattle.thorin_builder.proofs.package.DwarfPackage.add_input_by.Goals as goal

pub returns-clause-taken : goal.returns-clause-taken
returns-clause-taken g c = rw c.tried.ensures.outcome (record {
  read = Ok c.in_ok-bytes.bytes.now;
  within = c.in_ok-bytes.ensures.read;
  accepted = accepted_of c.add_object_bytes.result c.in_ok-bytes.bytes.now;
  taken = (search (rules, c.add_object_bytes.ensures), refl);
})
