use Rattle.thorin_check.specs.{Indexes.TellsColumns, Telling.so_far, Telling.Told}
use Rattle.{dwp_table.specs.Columns.contribution_kinds, std.proofs.Common.take}
use Rattle.thorin_check.proofs.tables.check_tables.Given as goal

-- the faults of the sections so far
abbrev pub invariant-loop-kind : goal.invariant-loop-kind
invariant-loop-kind g l = Told
    (TellsColumns l.indexed.pack.now (take l.kind-index contribution_kinds))
    (so_far (g.O.Write.contents l.initial.out) l.initial.faults)
    (so_far (g.O.Write.contents l.out) l.faults)
