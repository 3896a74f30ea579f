use Rattle.dwp_elf.{proofs.Changes.cut, specs.Contents.contents_of}
use Rattle.std.proofs.Common.{length, ◌≡◌, ◌≤◌}
use Rattle.dwp_elf.proofs.object.WritableObject.truncate.Given as goal

abbrev pub invariant-loop-number : goal.invariant-loop-number
invariant-loop-number l = record {
  others : l.self-inside ≡ record l.initial.self-inside { sections = l.self-inside.sections };
  cut_so_far : contents_of l.self-inside.sections.items ≡ cut l.number
      (contents_of l.initial.self-inside.sections.items) l.sizes;
  as_many : length l.self-inside.sections.items ≡ l.number-end;
  as_many_at_first : length l.initial.self-inside.sections.items ≡ l.number-end;
  sized : l.number-end ≤ length l.sizes;
}
