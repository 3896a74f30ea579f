use Rattle.thorin_check.proofs.units.text_of_found.Goals as goal

pub returns-in_ok-add-in-None-clause-on : goal.returns-in_ok-add-in-None-clause-on
returns-in_ok-add-in-None-clause-on c =
    let adds = c.in_ok-add-in-None.ensures c.args.pack.now c.requires.seen.gathers
    c.requires.is_found in
    record {
      seen = record { knows = c.text_of.ensures.knows; gathers = adds.gathers };
      kept = adds.kept;
    }
