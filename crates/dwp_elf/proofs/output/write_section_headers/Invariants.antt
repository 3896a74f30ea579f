use Rattle.dwp_elf.specs.{Contents.contents_of, FileText.content_bytes, FileText.headers_from}
use Rattle.{dwp_elf.proofs.SoFar.SoFar, dwp_elf_read.specs.Layout.header_size}
use Rattle.std.proofs.Common.{drop, length, ◌*◌, ◌+◌, ◌≡◌, ◌≤◌}
use Rattle.std.specs.declared.io.ErrorKind.{ErrorKind}
use Rattle.dwp_elf.proofs.output.write_section_headers.Given as goal

abbrev pub invariant-loop-section : goal.invariant-loop-section
invariant-loop-section g l = record {
  written : SoFar (g.O.Output.contents l.initial.out) (g.O.Output.contents l.out)
      (headers_from l.class l.endianness l.names_size 1 (header_size l.class)
      (contents_of l.sections))
      (headers_from l.class l.endianness l.names_size l.name l.place
      (contents_of (drop l.section-index l.sections)));
  error : (kind : ErrorKind) → g.O.Output.failed l.out kind → g.O.Output.failed l.initial.out kind;
  place_left : l.place + length (content_bytes (contents_of (drop l.section-index l.sections)))
      ≡ header_size l.class + length (content_bytes (contents_of l.sections));
  name_small : l.name ≤ 1 + 25 * l.section-index;
}
