use Rattle.dwp_strings.{proofs.Hashed.kept_from, proofs.Hashed.put_from, specs.Places.place_of}
use Rattle.std.proofs.Common.{Some, ap, arith, ◌∙◌}
use Rattle.dwp_strings.proofs.places.put_next.Goals as goal

pub returns-clause-put : goal.returns-clause-put
unfolding place_of
returns-clause-put c = λ _ size n next none more.
    put_from c.args.slots.now c.args.slot c.args.number (omega arith) c.requires.some _ 128
    next.from next.within next.used none
    ∙ ap Some (omega (arith, more))

pub returns-clause-kept : goal.returns-clause-kept
unfolding place_of
returns-clause-kept c = λ size h n.
    kept_from c.args.slots.now c.args.slot c.args.number _ 128 h n (c.requires.free (omega arith))
