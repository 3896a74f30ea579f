use Rattle.std.proofs.Common.{◌≡◌, length, take}
use Rattle.thorin_inputs.specs.Mapped.{AreNested, AreOf, IsOrdered}
use Rattle.thorin_inputs.proofs.prefixes.Prefixes.new.Given as goal

-- those of the words so far
abbrev pub invariant-loop-word : goal.invariant-loop-word
invariant-loop-word l = AreOf (take l.word-index l.words) l.sorted.entries

-- what is known of the FROMs so far
abbrev pub invariant-loop-place : goal.invariant-loop-place
invariant-loop-place l = record {
  ordered : IsOrdered l.last.items;
  long : length l.inner.items ≡ l.place;
  nested : AreNested l.last.items l.inner.items l.place;
}
