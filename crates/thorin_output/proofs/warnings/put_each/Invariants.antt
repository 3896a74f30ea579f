use Rattle.std.proofs.Common.{◌≡◌, ◌++◌, take, string_bytes, flat_map}
use Rattle.thorin_output.specs.Warnings.{differing_line}
use Rattle.thorin_output.proofs.warnings.put_each.Given as goal

-- the lines so far
abbrev pub invariant-loop-signature : goal.invariant-loop-signature
invariant-loop-signature l = string_bytes l.text ≡ string_bytes l.initial.text
    ++ flat_map differing_line (take l.signature-index l.differing)
