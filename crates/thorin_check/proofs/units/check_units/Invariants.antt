use Rattle.thorin_check.specs.{Gathered.TellsSeen, Telling.ForEach, Telling.so_far, Telling.Told}
use Rattle.{std.proofs.Common.take, thorin_check.specs.Gathered.IsSeen}
use Rattle.thorin_check.proofs.units.check_units.Given as goal

-- the faults of the entries so far
abbrev pub invariant-loop-i : goal.invariant-loop-i
invariant-loop-i g l = record {
  told : Told (ForEach (TellsSeen l.indexed.pack.now l.seen.strings.unread.items)
      (take l.i l.indexed.entries.now)) (so_far (g.O.Write.contents l.initial.out) l.initial.faults)
      (so_far (g.O.Write.contents l.out) l.faults);
  seen : IsSeen l.indexed.pack.now l.seen;
}
