use Rattle.std.proofs.Common.{drop, length, map, take, ◌≡◌}
use Rattle.thorin_input.specs.{Parts.parts_of, View.part, View.source, View.used}
use Rattle.{thorin_input.specs.Parts.with_each_part, thorin_strings.specs.Known.AreKnown}
use Rattle.thorin_input.proofs.parts.parts_of.Given as goal

-- what the sections that are left add to the parts so far is what all add; and the strings from
-- before are there
abbrev pub invariant-loop-section : goal.invariant-loop-section
invariant-loop-section l =
    (with_each_part (source l.source) (map part l.gathering.parts.items, l.strings)
    (map used (drop l.section-index l.source.object.sections.items)) ≡ parts_of
    (source l.source) l.fn.strings) × (take (length l.fn.strings) l.strings ≡ l.fn.strings)
    × AreKnown l.named l.strings l.gathering.repeats
