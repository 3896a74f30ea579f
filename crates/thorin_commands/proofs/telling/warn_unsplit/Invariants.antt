use Rattle.{thorin_commands.specs.Warned.TellUnsplitBy, thorin_output.specs.Warnings.IsPrinted}
use Rattle.std.proofs.Common.{take, true, ◌≡◌}
use Rattle.thorin_commands.proofs.telling.warn_unsplit.Given as goal

-- the inputs so far
abbrev pub invariant-loop-i : goal.invariant-loop-i
invariant-loop-i g l =
    IsPrinted (g.E.LineOutput.contents l.fn.err) (g.E.LineOutput.contents l.err)
    (TellUnsplitBy true (l.count ≡ 0) (take l.i l.list) (take l.i l.lacks))
