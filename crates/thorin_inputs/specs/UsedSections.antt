-- The sections that strings are named by, met one after another.
use Rattle.std.specs.Prelude.{◌≡◌, ℕ, ◌≤◌, List, drop, Option, Some, None, if◌then◌else◌}
use Rattle.std.specs.List.{list_any}
use Rattle.std.specs.Option.{option_or}
use Rattle.dwp_base.specs.declared.section.SectionKind.{SectionKind}
use Rattle.dwp_elf_read.specs.Elf.{Elf, SectionMeaning, holds}
use Rattle.thorin_inputs.specs.InnerStrings.{names, plain_content}

-- the content of the first section of a kind that has bytes, once one more section is met
abbrev pub met : SectionKind → (before : Option (List ℕ)) → SectionMeaning → Option (List ℕ)
met kind before section =
    option_or before (if holds kind section then Some (plain_content section) else None)

-- the sections of string offsets that have bytes, of so many: none stands before the first number,
-- or behind the other
pub record AreBetween (file : Elf) (first behind count : ℕ) : Type 0 where
  pub low : first ≤ behind
  pub high : behind ≤ count
  pub before : (step at : ℕ) → list_any (names file.order step at) (drop first file.sections)
      ≡ list_any (names file.order step at) file.sections
  pub left : (step at : ℕ) → list_any (names file.order step at) (drop behind file.sections)
      ≡ list_any (names file.order step at) (drop count file.sections)
