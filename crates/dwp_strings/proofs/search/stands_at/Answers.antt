use Rattle.{dwp_strings.proofs.Named.alike_at, std.proofs.Common.arith, std.specs.Cmp.Equal-is}
use Rattle.std.proofs.lemmas.{Cmp.nat_list_cmp_total, Cmp.tied_itself, Map.Lookups.exact_bytes}
use Rattle.dwp_strings.proofs.search.stands_at.Goals as goal

pub returns-then-rest-string : goal.returns-then-rest-string
returns-then-rest-string c =
    let own = tied_itself nat_list_cmp_total c.args.string.now in
    grind (arith, c.compare_at.ensures, exact_bytes, Equal-is c.compare_at.result, own)

pub returns-else-rest-string-eq0 : goal.returns-else-rest-string-eq0
returns-else-rest-string-eq0 c =
    grind (arith, alike_at c.args.bytes.now c.args.at c.args.string.now)
