use Rattle.dwp_dwarf.proofs.Terms.{err_from_is_err_and, from_at, Input, Ok, refl, ◌∙◌, ◌≡◌}
use Rattle.dwp_dwarf.proofs.cache.AbbreviationCache.split_in.Goals as goal

pub returns-in_err-split-in-Some-first_of-clause-split :
    goal.returns-in_err-split-in-Some-first_of-clause-split
returns-in_err-split-in-Some-first_of-clause-split g c = λ table is.
    let p = err_from_is_err_and c.from_residual-in_err-split-in-Some-first_of.result
    c.from_residual-in_err-split-in-Some-first_of.ensures.1 in
    let input = g.R.Reader.input in
    let view = c.self.view_is in
    let kept = c.in_ok-declared.ensures.kept in
    let own : c.self.inside.section ≡ c.args.self.now = cc in
    let declared = λ (t : Input) (begins : from_at c.args.offset (input c.self.inside.section)
    ≡ Ok t). rw c.in-Some.is at (c.in_ok-declared.ensures.declared t (rw own at begins)) in
    let first = c.in-Some-first_of.ensures c.self.invariant in
    let fails = c.in_err-split-in-Some-first_of.ensures.split _
    (first.says ∙ declared first.table first.is) c.self.invariant.lists in
    let found = rw c.in-Some.is at (c.in_ok-declared.ensures.declared table is) in
    rw (p.1, p.2) (rw (found, fails) refl)
