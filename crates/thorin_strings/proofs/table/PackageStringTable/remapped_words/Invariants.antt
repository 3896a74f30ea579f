use Rattle.std.proofs.Common.{length, take, ◌*◌, ◌+◌, ◌-◌, ◌≡◌, ◌≤◌}
use Rattle.thorin_strings.specs.{Known.AreKnown, Written.AreWritten}
use Rattle.dwp_bytes.specs.StringOffsets.{header_size}
use Rattle.thorin_strings.proofs.table.PackageStringTable.remapped_words.Given as goal

abbrev pub invariant-loop-index : goal.invariant-loop-index
invariant-loop-index l = record {
  within : l.index ≤ l.count;
  first : l.first ≡ header_size l.range.encoding;
  kept : take (length l.initial.self) l.self ≡ l.initial.self;
  so_far : AreWritten l.range.encoding l.range.strings.now l.offsets l.index
      (take l.first l.initial.out.items) l.initial.self l.self l.out.items;
  long : length l.out.items ≡ l.first + l.count * 4;
  known : AreKnown l.range.strings.now l.self l.repeats;
}

abbrev pub decreases-loop-index : goal.decreases-loop-index
decreases-loop-index l = l.count - l.index
