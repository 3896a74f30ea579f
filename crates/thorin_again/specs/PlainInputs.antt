-- Inputs that are taken one after another, and packages that are made of plain objects of one
-- encoding alone (DWARF 5, 7.3.5 and 7.5.1).
use Rattle.std.specs.Prelude.{◌≡◌, ℕ, ◌<◌, true, List, [], ◌∷◌, length, Ok, All}
use Rattle.std.specs.List.{list_all}
use Rattle.dwp_elf_read.specs.Elf.{Elf}
use Rattle.dwp_bytes.specs.declared.encoding.Encoding.{Encoding}
use Rattle.dwp_table.specs.declared.object.DwarfObject.{DwarfObject}
use Rattle.thorin_input.specs.Encodings.{encoding_of, is_plain, section_has}
use Rattle.thorin_input.specs.Used.{InputFile, opened, has_info, input_file_of}
use Rattle.thorin_join.specs.Builder.{State, taken}
use Rattle.thorin_join.specs.Join.{Joins}
use Rattle.thorin_join.specs.Meaning.{Members}
use Rattle.thorin_again.specs.Own.{has_sections}
use Rattle.thorin_join.specs.Represents.{units_in}

-- these inputs were taken, in order; before each, and at the end, the units that executables refer
-- to may have become others
abbrev pub AreTaken : List (List ℕ) → (before after : State) → Type 0
AreTaken [] before after =
    (targets : List DwarfObject) × (after ≡ record before { targets = targets })
AreTaken (bytes ∷ rest) before after = (targets : List DwarfObject) × (next : State)
    × (taken bytes (record before { targets = targets }) ≡ Ok next) × AreTaken rest next after

-- a plain object with units, all of which have this encoding, also those that are passed over
pub record IsPlainOf (encoding : Encoding) (bytes : List ℕ) : Type 0 where
  pub file : Elf
  pub opens : opened bytes ≡ Ok file
  pub info : has_info file ≡ true
  pub object : InputFile
  pub used : input_file_of file ≡ Ok object
  pub plain : is_plain object.sections ≡ true
  pub first : encoding_of object ≡ Ok encoding
  pub all : list_all (section_has encoding object.order) object.sections ≡ true

-- inputs are joined in order, and each adds a unit
abbrev pub EachAdds : List (List ℕ) → (before now : Members) → Type 0
EachAdds [] before now = now ≡ before
EachAdds (bytes ∷ rest) before now =
    (middle : Members) × (j : Joins bytes before middle) × (0 < length j.added)
    × EachAdds rest middle now

-- each accepted input was a plain object that added a unit, all their units have one encoding, and
-- there are abbreviations and, beside string offsets, strings
pub record IsOfPlainObjects (accepted : List (List ℕ)) (state : State) : Type 0 where
  pub encoding : Encoding
  pub plain : All (IsPlainOf encoding) accepted
  pub adds : EachAdds accepted [] (units_in state)
  pub sections : has_sections state.begun ≡ true
