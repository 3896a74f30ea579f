-- An object in which the macros of some sections don't count. A compiler that puts macros into
-- COMDAT groups (ELF gABI, "Section Groups") leaves several sections of one name in an object;
-- GNU's `dwp` and LLVM's `llvm-dwp` have a unit refer to the last of them.
use Rattle.std.specs.Prelude.{ℕ, List, [], ◌∷◌, Bool, true, false, ◌&&◌, ◌||◌, not}
use Rattle.std.specs.Prelude.{if◌then◌else◌, Option, Some, None, Result, Ok, Err}
use Rattle.std.specs.List.{list_any}
use Rattle.dwp_base.specs.declared.section.SectionKind.TheVariants.{Macro, CuIndex, TuIndex}
use Rattle.dwp_elf_read.specs.declared.error.ReadError.{ReadError}
use Rattle.dwp_elf_read.specs.Elf.{Elf, SectionMeaning, holds, elf_of}
use Rattle.dwp_macros.specs.declared.kept.KeptMacros.{KeptMacros}
use Rattle.dwp_macros.specs.declared.kept.KeptMacros.TheVariants as kept

-- a section has macros
unfoldable pub has_macros : SectionMeaning → Bool
has_macros section = holds Macro section

-- it is an index: its file is a package
unfoldable pub is_index : SectionMeaning → Bool
is_index section = holds CuIndex section || holds TuIndex section

-- macros go, where there are or aren't more behind them
abbrev pub go : KeptMacros → (has_more : Bool) → Bool
go kept.All has_more = false
go kept.Last has_more = has_more
go kept.None has_more = true

-- a section has macros that go, with these sections behind it
abbrev pub loses : KeptMacros → SectionMeaning → (behind : List SectionMeaning) → Bool
loses kept section behind = has_macros section && go kept (list_any has_macros behind)

-- one of the sections does
unfoldable pub lose : KeptMacros → List SectionMeaning → Bool
lose kept [] = false
lose kept (section ∷ behind) = lose kept behind || loses kept section behind

-- a section without its bytes
unfoldable pub emptied : SectionMeaning → SectionMeaning
emptied section = record section { size = 0; content = Some [] }

unfoldable pub kept_section : KeptMacros → SectionMeaning → (behind : List SectionMeaning)
    → SectionMeaning
kept_section kept section behind = if loses kept section behind then emptied section else section

unfoldable pub kept_sections : KeptMacros → List SectionMeaning → List SectionMeaning
kept_sections kept [] = []
kept_sections kept (section ∷ behind) =
    kept_section kept section behind ∷ kept_sections kept behind

-- a file with these sections
unfoldable pub kept_file : KeptMacros → Elf → Elf
kept_file kept file = record file { sections = kept_sections kept file.sections }

-- an object, and no package, loses macros
unfoldable pub is_changed : KeptMacros → List SectionMeaning → Bool
is_changed kept sections = lose kept sections && not (list_any is_index sections)

-- what the reader is to say of the result; there is none where nothing is to change
abbrev pub kept_of : KeptMacros → Result Elf ReadError → Option (Result Elf ReadError)
kept_of kept (Err e) = None
kept_of kept (Ok file) =
    if is_changed kept file.sections then Some (Ok (kept_file kept file)) else None

unfoldable pub kept_macros_of : KeptMacros → List ℕ → Option (Result Elf ReadError)
kept_macros_of kept bytes = kept_of kept (elf_of bytes)
