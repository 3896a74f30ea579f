use Rattle.std.proofs.Common.{◌≡◌, ◌++◌, take, string_bytes, flat_map}
use Rattle.thorin_print.specs.Spelled.{spelled_character, spelled_byte}
use Rattle.thorin_print.proofs.spelled.put_spelled.Given as goal

-- the characters so far
abbrev pub invariant-loop-c : goal.invariant-loop-c
invariant-loop-c l = string_bytes l.text
    ≡ string_bytes l.initial.text ++ flat_map (spelled_character l.form) l.yielded

-- the bytes so far
abbrev pub invariant-loop-byte : goal.invariant-loop-byte
invariant-loop-byte l = string_bytes l.text ≡ string_bytes l.initial.text
    ++ flat_map (spelled_byte l.form) (take l.byte-index l.bytes)
