use Rattle.thorin_strings.specs.{StringOffsets.entry_at, Written.AreWritten}
use Rattle.dwp_base.specs.declared.endian.Endianness.TheVariants.{Little}
use Rattle.std.proofs.Common.{length, List, Ok, take, ℕ, ◌-◌, ◌≡◌, ◌≤◌}
use Rattle.thorin_strings.proofs.table.PackageStringTable.write_told.Given as goal

abbrev pub invariant-loop-index : goal.invariant-loop-index
invariant-loop-index l = record {
  further : l.from ≤ l.index;
  within : l.index ≤ l.last;
  read : entry_at Little l.encoding l.offsets l.index ≡ Ok l.named;
  told : (old : List (List ℕ)) (front : List ℕ)
      → AreWritten l.encoding l.strings l.offsets l.from front old l.initial.self l.initial.out
      → AreWritten l.encoding l.strings l.offsets l.index front old l.self l.out;
  kept : take (length l.initial.self) l.self ≡ l.initial.self;
}

abbrev pub decreases-loop-index : goal.decreases-loop-index
decreases-loop-index l = l.last - l.index
