use Rattle.thorin_strings.{proofs.Remapping.AreRewritten, specs.Known.AreKnown}
use Rattle.std.proofs.Common.{length, take, ◌≡◌}
use Rattle.thorin_strings.proofs.table.PackageStringTable.remapped.Given as goal

abbrev pub invariant-loop-index : goal.invariant-loop-index
invariant-loop-index l = record {
  kept : take (length l.initial.self) l.self ≡ l.initial.self;
  so_far : AreRewritten l.order l.encoding l.strings l.range.offsets.now l.index
      l.initial.out.items l.initial.self l.self l.out.items;
  known : AreKnown l.strings l.self l.repeats;
}
