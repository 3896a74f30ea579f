use Rattle.dwp_elf.{proofs.SoFar.SoFar, specs.Contents.contents_of, specs.FileText.content_bytes}
use Rattle.std.{proofs.Common.drop, specs.declared.io.ErrorKind.ErrorKind}
use Rattle.dwp_elf.proofs.output.write_contents.Given as goal

abbrev pub invariant-loop-section : goal.invariant-loop-section
invariant-loop-section g l = record {
  text : SoFar (g.O.Output.contents l.initial.out) (g.O.Output.contents l.out)
      (content_bytes (contents_of l.sections))
      (content_bytes (contents_of (drop l.section-index l.sections)));
  error : (kind : ErrorKind) → g.O.Output.failed l.out kind → g.O.Output.failed l.initial.out kind;
}
