use Rattle.{dwp_strings.proofs.Named.front_cut, std.proofs.lemmas.List.take_rest}
use Rattle.std.proofs.Common.{arith, drop, get_or-drop, length-drop}
use Rattle.dwp_strings.proofs.search.begins_alike.Goals as goal

pub returns-then-bytes-at-eq0 : goal.returns-then-bytes-at-eq0
returns-then-bytes-at-eq0 c = λ is.
    let first = front_cut (drop c.args.at c.args.bytes.now) c.args.end in
    let second = front_cut c.args.other.now c.args.end in
    grind (arith, first, second, length-drop, get_or-drop, take_rest, c.if-at-eq0.branch)
