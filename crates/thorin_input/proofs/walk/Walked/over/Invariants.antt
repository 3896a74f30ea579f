use Rattle.dwp_base.specs.declared.section.SectionKind.TheVariants.{Abbrev, Info, Str}
use Rattle.dwp_elf_read.specs.View.{elf, sections_left}
use Rattle.thorin_input.proofs.Walking.{GoesOn, SoFar, those}
use Rattle.{dwp_base.specs.Sections.name_of, thorin_input.specs.Used.used_from}
use Rattle.{dwp_elf_read.specs.Elf.is_named, dwp_elf_read.specs.Elf.is_of, std.proofs.Common.[]}
use Rattle.thorin_input.proofs.walk.Walked.over.Given as goal

-- what is there among the sections so far and those that are left is what is there among all; so
-- with what is used
abbrev pub invariant-loop-section : goal.invariant-loop-section
invariant-loop-section l = record {
  info : SoFar (is_of Info) l.with_units (sections_left l.section-iterator) (elf l.file);
  strings : SoFar (is_named (name_of Str)) l.has_strings (sections_left l.section-iterator)
      (elf l.file);
  abbreviations : SoFar (is_named (name_of Abbrev)) l.has_abbreviations (sections_left
      l.section-iterator) (elf l.file);
  used : GoesOn l.fault l.used (those (sections_left l.section-iterator))
      (used_from [] (elf l.file).sections);
}
