use Rattle.thorin_c.{proofs.Lists.outcome, specs.Finding.found_as, specs.Finding.looked}
use Rattle.std.proofs.Common.{map, ◌≡◌}
use Rattle.thorin_c.proofs.finding.find_each.Given as goal

-- those so far are looked up, and of each other comes what came of it before
abbrev pub invariant-loop-i : goal.invariant-loop-i
invariant-loop-i l = outcome (looked (found_as l.wanted) l.file) l.i l.lookups
    ≡ map (looked (found_as l.wanted) l.file) l.initial.lookups
