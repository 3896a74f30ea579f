use Rattle.std.proofs.Common.{Ok, rules, [], ◌∷◌, ◌≡◌}
use Rattle.thorin_commands.proofs.Causes.{alone, err_by, ran_one}
use Rattle.{std.proofs.lemmas.Result.on_ok_weaker, thorin_commands.specs.Packing.declines}
use Rattle.thorin_commands.proofs.making.take.Goals as goal

pub returns-in_default-clause-took : goal.returns-in_default-clause-took
returns-in_default-clause-took g c =
    on_ok_weaker c.settle.result (λ (e : c.take_input-outcome.result ≡ Ok tt).
    let took = rw e at c.take_input-outcome.ensures.taken in record {
      list = c.args.input ∷ [];
      stands = search rules;
      accepted = took.accepted;
      ran = ran_one _ c.args.input _ _ took;
    }) c.settle.ensures.took

pub returns-in_default-clause-told : goal.returns-in_default-clause-told
returns-in_default-clause-told g c =
    let packing = c.args.inputs.now.packing.now in
    let offer = g.F.FileSystem.offer c.args.inputs.now.files.now in
    err_by g.E.LineOutput.contents g.E.LineOutput.failed c.settle.new.err
    (alone (declines packing offer) c.take_input-outcome.result (search rules)
    c.take_input-outcome.ensures.taken c.take_input-outcome.ensures.declined)
    c.settle.result c.settle.ensures.told

pub returns-in_default-clause-line : goal.returns-in_default-clause-line
returns-in_default-clause-line g c = rw c.unit_count-before.ensures at c.settle.ensures.line
