use Rattle.thorin_commands.specs.Warned.{InOrder, IsNamedLine}
use Rattle.std.proofs.Common.{map, string_bytes, take}
use Rattle.thorin_commands.proofs.notes.lines_of_differing.Given as goal

-- the lines so far
abbrev pub invariant-loop-number : goal.invariant-loop-number
invariant-loop-number g l =
    InOrder IsNamedLine (map (λ s. s.0) (take l.number l.differing)) (string_bytes l.lines)
