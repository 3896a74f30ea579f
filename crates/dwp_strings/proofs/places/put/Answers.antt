use Rattle.dwp_strings.proofs.places.put.Goals as goal

pub returns-in-Err-clause-put : goal.returns-in-Err-clause-put
returns-in-Err-clause-put c = λ is n more.
    c.put_next.ensures.put is _ n (c.in-Err.ensures.next (c.put_next.ensures.within is))
    c.in-Err.ensures.none more
