use Rattle.{dwp_elf_read.specs.View.elf, std.specs.Option.option_copied, std.specs.Option.option_or}
use Rattle.dwp_base.specs.declared.section.SectionKind.TheVariants.{CuIndex, Str, TuIndex}
use Rattle.thorin_inputs.specs.{InnerStrings.first_content, UsedSections.AreBetween}
use Rattle.std.proofs.Common.{drop, ◌≡◌}
use Rattle.thorin_inputs.proofs.overlaps.UsedSections.of.Given as goal

-- what was met, with what is left
abbrev pub invariant-loop-i : goal.invariant-loop-i
invariant-loop-i l =
    let sections = (elf l.file).sections in
    record {
      strings : option_or (option_copied l.used.strings) (first_content Str (drop l.i sections))
          ≡ first_content Str sections;
      compilations : option_or (option_copied l.used.compilations)
          (first_content CuIndex (drop l.i sections)) ≡ first_content CuIndex sections;
      types : option_or (option_copied l.used.types) (first_content TuIndex (drop l.i sections))
          ≡ first_content TuIndex sections;
      offsets : AreBetween (elf l.file) l.used.first_offsets l.used.behind_offsets l.i;
    }
