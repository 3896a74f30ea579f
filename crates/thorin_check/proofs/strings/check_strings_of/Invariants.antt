use Rattle.thorin_check.specs.{Faults.TellsNumbered, Telling.ForEach, Telling.so_far, Telling.Told}
use Rattle.std.{proofs.Common.map, specs.List.range_with_len}
use Rattle.thorin_find.specs.Finding.{string_of}
use Rattle.thorin_check.proofs.strings.check_strings_of.Given as goal

-- the faults of the strings so far
abbrev pub invariant-loop-i : goal.invariant-loop-i
invariant-loop-i g l = Told
    (ForEach (TellsNumbered l.object) (map (λ k. (k, string_of l.unit k)) (range_with_len 0 l.i)))
    (so_far (g.O.Write.contents l.initial.out) l.initial.faults)
    (so_far (g.O.Write.contents l.out) l.faults)
