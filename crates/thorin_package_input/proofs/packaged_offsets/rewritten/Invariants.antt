use Rattle.{thorin_package_input.proofs.ReadAlike.IsSoFar, thorin_strings.specs.Known.AreKnown}
use Rattle.thorin_package_input.proofs.packaged_offsets.rewritten.Given as goal

abbrev pub invariant-loop-range : goal.invariant-loop-range
invariant-loop-range l = record {
  so_far : IsSoFar l.section.order l.section.encoding l.section.strings.now l.section.offsets.now
      l.ranges l.initial.strings l.out.items l.at l.range-index l.strings;
  known : AreKnown l.section.strings.now l.strings l.repeats;
}
