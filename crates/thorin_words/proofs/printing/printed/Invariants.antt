use Rattle.std.proofs.Common.{◌≡◌, string_bytes, flat_map}
use Rattle.thorin_words.specs.Printed.{printed_character}
use Rattle.thorin_words.proofs.printing.printed.Given as goal

abbrev pub invariant-loop-c : goal.invariant-loop-c
invariant-loop-c l = string_bytes l.shown ≡ flat_map printed_character l.yielded
