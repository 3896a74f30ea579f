use Rattle.{dwp_elf.proofs.SoFar.SoFar, std.proofs.Common.length}
use Rattle.std.specs.declared.io.ErrorKind.{ErrorKind}
use Rattle.dwp_elf.proofs.output.write_whole.Given as goal

abbrev pub invariant-loop-rest : goal.invariant-loop-rest
invariant-loop-rest g l = record {
  text : SoFar (g.O.Output.contents l.initial.out) (g.O.Output.contents l.out)
      l.initial.rest l.rest;
  error : (kind : ErrorKind) → g.O.Output.failed l.out kind → g.O.Output.failed l.initial.out kind;
}

abbrev pub decreases-loop-rest : goal.decreases-loop-rest
decreases-loop-rest g l = length l.rest
