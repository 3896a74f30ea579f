-- Which compressed sections become plain: all of them, or those that readers of units ask for.
use Rattle.std.specs.Prelude.{ℕ, List, codes, Bool, true, ◌||◌, Option, is_some}
use Rattle.std.specs.Option.{option_and_then}
use Rattle.dwp_base.specs.Sections.{kind_named}
use Rattle.dwp_elf_read.specs.Elf.{SectionMeaning, is_named}
use Rattle.dwp_decompress.specs.declared.asked.Asked.{Asked}
use Rattle.dwp_decompress.specs.declared.asked.Asked.TheVariants.{All, OfUnits}

-- a name is that of a kind of section of split DWARF, in either spelling
abbrev pub is_of_kind : Option (List ℕ) → Bool
is_of_kind name = is_some (option_and_then kind_named name)

-- a section has one of two names
abbrev pub is_either : SectionMeaning → List ℕ → List ℕ → Bool
is_either section name older = is_named name section || is_named older section

-- it is one that says which split units an executable was made with (DWARF 5, 7.3.2), in either
-- spelling
abbrev pub is_of_executable : SectionMeaning → Bool
is_of_executable section =
    is_either section (codes ".debug_abbrev") (codes ".zdebug_abbrev")
    || (is_either section (codes ".debug_info") (codes ".zdebug_info")
    || (is_either section (codes ".debug_line_str") (codes ".zdebug_line_str")
    || (is_either section (codes ".debug_str") (codes ".zdebug_str")
    || is_either section (codes ".debug_str_offsets") (codes ".zdebug_str_offsets"))))

-- a section is asked for
unfoldable pub is_asked : Asked → SectionMeaning → Bool
is_asked All section = true
is_asked OfUnits section = is_of_kind section.name || is_of_executable section
