use Rattle.std.proofs.Common.{◌≡◌, map, take}
use Rattle.thorin_c.specs.Listing.{written_over}
use Rattle.thorin_c.proofs.packing.write_signatures.Given as goal

-- the signatures so far are written
abbrev pub invariant-loop-i : goal.invariant-loop-i
invariant-loop-i l = l.types ≡ written_over l.initial.types (map (λ s. s.0) (take l.i l.signatures))
