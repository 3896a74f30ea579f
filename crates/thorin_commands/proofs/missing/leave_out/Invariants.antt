use Rattle.{thorin_builder.specs.Missing.missing_left, thorin_output.specs.Warnings.IsPrinted}
use Rattle.thorin_commands.specs.Warned.{InOrder, IsLeftLine, missing_in}
use Rattle.std.proofs.Common.{◌++◌, ◌≡◌}
use Rattle.thorin_commands.proofs.missing.leave_out.Given as goal

-- those so far are told
abbrev pub invariant-loop-target : goal.invariant-loop-target
invariant-loop-target g l = record {
  left : l.yielded ++ missing_left l.target-iterator ≡ missing_in l.fn.builder.state;
  told : IsPrinted (g.E.LineOutput.contents l.fn.err) (g.E.LineOutput.contents l.err)
      (InOrder IsLeftLine l.yielded);
}
