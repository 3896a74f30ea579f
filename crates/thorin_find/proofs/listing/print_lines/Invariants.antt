use Rattle.std.proofs.Common.{drop, string_bytes}
use Rattle.thorin_find.{proofs.Listed.PrintedSoFar, specs.Listing.view_of}
use Rattle.thorin_find.proofs.listing.print_lines.Given as goal

-- the lines of the slots so far
abbrev pub invariant-loop-entry : goal.invariant-loop-entry
invariant-loop-entry g l = PrintedSoFar (view_of l.listed.form l.listed.pack.now)
    l.listed.pack.now l.entries (drop l.entry-index l.entries)
    (g.O.Write.contents l.initial.out) (g.O.Write.contents l.out) (string_bytes l.waiting)
