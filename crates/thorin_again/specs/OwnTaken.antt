-- The string offsets and the units of an own package as an input (DWARF 5, 7.26 and 7.3.5).
use Rattle.std.specs.Prelude.{◌≡◌, ℕ, List, Ok}
use Rattle.dwp_elf.specs.Growing.{Contents}
use Rattle.dwp_strings.specs.Strings.{IsTable}
use Rattle.thorin_again.specs.OwnRefusals.{UnlessForeseen, UnlessStringOffset}
use Rattle.thorin_input.specs.Indexes.{Source}
use Rattle.thorin_input.specs.InputStrings.{rewritten}
use Rattle.thorin_input.specs.NewUnits.{new_units}
use Rattle.thorin_input.specs.Parts.{parts_of}
use Rattle.thorin_join.specs.State.{InProgress, adding}

-- string offsets of an input are rewritten among whatever strings there are, unless the offset of a
-- string doesn't fit the format
abbrev pub AreRewritten : Source → (offsets : List ℕ) → Type 0
AreRewritten source offsets =
    (strings : List (List ℕ)) → UnlessStringOffset (rewritten source offsets strings)

-- any package that takes the parts of an input takes its units, unless a compilation unit is there
-- already
abbrev pub AreUnitsTaken : Source → Type 0
AreUnitsTaken source = (before : InProgress) (parts : Contents) (after : List (List ℕ))
    → IsTable before.strings
    → parts_of source before.strings ≡ Ok (parts, after)
    → UnlessForeseen (new_units (adding source before parts))
