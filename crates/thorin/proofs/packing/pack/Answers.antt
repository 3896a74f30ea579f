use Rattle.{thorin.proofs.Running.run-accepts, thorin_join.specs.Builder.start}
use Rattle.thorin.proofs.packing.pack.Goals as goal

pub returns-in-Ok-clause-packed : goal.returns-in-Ok-clause-packed
returns-in-Ok-clause-packed g c =
    let offer = g.Sess.Session.offer c.args.session.now in
    let said = c.in-Ok.ensures.ran in
    let ran = rw c.new-builder.ensures.state at said.1 in
    record {
      state = c.take_inputs.new.builder.state;
      accepted = said.0;
      ran = ran;
      joined = (run-accepts offer c.args.inputs.now start c.take_inputs.new.builder.state
          c.in-Ok.outcomes.items said.0 ran).1;
      written = c.written-file.ensures.writes;
      package_of = c.written-file.ensures.packaged;
      differing = c.written-file.ensures.differing;
    }
