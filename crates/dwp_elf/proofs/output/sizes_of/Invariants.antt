use Rattle.dwp_elf.specs.FileText.{content_bytes, name_table, names_of}
use Rattle.std.proofs.Common.{drop, length, ◌*◌, ◌+◌, ◌≡◌, ◌≤◌}
use Rattle.dwp_elf.specs.Contents.{contents_of}
use Rattle.dwp_elf.proofs.output.sizes_of.Given as goal

abbrev pub invariant-loop-section : goal.invariant-loop-section
invariant-loop-section l = record {
  contents_left : l.contents
      + length (content_bytes (contents_of (drop l.section-index l.sections)))
      ≡ length (content_bytes (contents_of l.sections));
  names_left : l.names + length (names_of (contents_of (drop l.section-index l.sections)))
      ≡ length (name_table (contents_of l.sections));
  small : l.names ≤ 11 + 25 * l.section-index;
}
