use Rattle.std.proofs.Common.{inr, refl}
use Rattle.thorin_commands.proofs.Causes.{by_outcome, content_took}
use Rattle.thorin_commands.proofs.archives.take_content.Goals as goal

pub returns-in-Ok-clause-took : goal.returns-in-Ok-clause-took
returns-in-Ok-clause-took g c =
    content_took (rw c.or_content-bytes.ensures c.in-Ok.ensures.taken) c.take_input.result
    c.take_input.ensures.taken

pub returns-in-Ok-clause-refused : goal.returns-in-Ok-clause-refused
returns-in-Ok-clause-refused g c = by_outcome c.take_input.result _ (λ why e. inr (record {
  taken = c.or_content-bytes.result.now;
  is = rw c.or_content-bytes.ensures c.in-Ok.ensures.taken;
  refused = record {
    input = c.or_content-bytes.result;
    is = refl;
    refused = record {
      new = c.take_input.new.builder.state;
      took = rw e at c.take_input.ensures.taken;
      declined = rw e at c.take_input.ensures.declined;
    };
  };
}))
