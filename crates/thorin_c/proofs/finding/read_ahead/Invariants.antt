use Rattle.std.proofs.Common.{◌≡◌, take, map}
use Rattle.thorin_c.specs.Finding.{found_as, looked}
use Rattle.thorin_c.proofs.finding.read_ahead.Given as goal

-- those before the start are as they were, and of each comes what came of it before
abbrev pub invariant-loop-i : goal.invariant-loop-i
invariant-loop-i l = record {
  front : take l.start l.lookups ≡ take l.start l.initial.lookups;
  same : map (looked (found_as l.fn.wanted) l.pack) l.lookups
      ≡ map (looked (found_as l.fn.wanted) l.pack) l.initial.lookups;
}
