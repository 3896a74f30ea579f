-- The first section of each kind that has bytes, met in file order.
use Rattle.std.specs.Prelude.{ℕ, Option, Some, None, option_map, if◌then◌else◌}
use Rattle.dwp_base.specs.ByKind.{value_of, values_of}
use Rattle.dwp_base.specs.declared.by_kind.ByKind.{ByKind}
use Rattle.dwp_base.specs.declared.section.SectionKind.{SectionKind}
use Rattle.dwp_elf_read.specs.Elf.{SectionMeaning}
use Rattle.dwp_elf_read.specs.View.{section}
use Rattle.dwp_elf_read.specs.declared.section.Section.{Section}
use Rattle.dwp_index.specs.Contents.{is_of_kind}

-- that of a kind among those that were met, and its number
abbrev pub found_in : ByKind (Option (ℕ × Section)) → SectionKind → Option (ℕ × Section)
found_in firsts kind = value_of None (values_of firsts) kind

-- what it means
abbrev pub first_in : ByKind (Option (ℕ × Section)) → SectionKind → Option SectionMeaning
first_in firsts kind = option_map (λ found. section found.1) (found_in firsts kind)

-- that of a kind, once one more section was met
abbrev pub found_with : SectionKind → Option (ℕ × Section) → ℕ → Section → Option (ℕ × Section)
found_with kind (Some first) number next = Some first
found_with kind None number next =
    if is_of_kind kind (section next) then Some (number, next) else None
