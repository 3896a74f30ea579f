use Rattle.dwp_dwarf.proofs.Terms.{◌+◌, ap, arith, leb-true, length, sym, ◌≡◌, ◌≤◌}
use Rattle.dwp_dwarf.proofs.Places.{same_within}
use Rattle.dwp_dwarf.proofs.cache.AbbreviationCache.declares_within.Goals as goal

pub returns-clause-same : goal.returns-clause-same
returns-clause-same g c = λ yes part whole is_part is_whole.
    let section = g.R.Reader.input c.self.inside.section in
    let same : c.self.inside.section ≡ c.args.self.now = cc in
    let size = ap (λ r. length (g.R.Reader.input r).bytes) same in
    let fits : length (g.R.Reader.input c.args.self.now).bytes ≤ c.in-Some.left + c.args.end =
    omega (arith, leb-true _ _ yes, c.len.ensures, c.saturating_add.ensures, size) in
    same_within _ part whole c.args.offset c.args.end _ _ fits
    (c.in-Some.ensures.ends c.self.invariant whole (rw (sym same) at is_whole)).1 is_part is_whole
