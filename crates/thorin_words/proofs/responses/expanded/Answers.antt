use Rattle.std.proofs.Common.{ap, map, rules, string_bytes}
use Rattle.thorin_words.proofs.Standing.{told}
use Rattle.thorin_words.proofs.responses.expanded.Goals as goal

pub returns : goal.returns
returns g c = told c.args.program.now c.in_ok-add_line.ensures
    (ap (map string_bytes) c.new-names.ensures.items) c.in_ok-all.ensures.alone

pub returns-in_err-add_line : goal.returns-in_err-add_line
returns-in_err-add_line g c =
    let stop = rw c.new-names.ensures.items at c.in_err-add_line.ensures in search rules
