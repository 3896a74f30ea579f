-- Packages that are packed again, and inputs of one encoding: what packing says of both (DWARF 5,
-- 7.3.5 and 7.5.1).
use Rattle.std.specs.Prelude.{◌≡◌, ℕ, true, List, [], ◌∷◌, Option, Ok, All, IsPermutation}
use Rattle.dwp_base.specs.declared.endian.Endianness.{Endianness}
use Rattle.dwp_bytes.specs.declared.encoding.Encoding.{Encoding}
use Rattle.dwp_elf.specs.FileText.{Object as File, file_text}
use Rattle.dwp_table.specs.declared.object.DwarfObject.{DwarfObject}
use Rattle.thorin_again.specs.Again.{all_meant}
use Rattle.thorin_join.specs.Join.{IsPackageOf}
use Rattle.thorin_join.specs.Meaning.{Meaning, Members, input_meaning}
use Rattle.thorin_again.specs.OneEncoding.{IsOfEncoding}
use Rattle.thorin_again.specs.Own.{packs_again}
use Rattle.thorin_again.specs.OwnAccepted.{IsAccepted, IsAcceptedByNew}
use Rattle.thorin.specs.Groups.{ArePackedAlone}

-- bytes are a file that any package of its byte order takes, unless a compilation unit is there
-- already or the offset of a string doesn't fit, and that a new one takes and has just these units
-- then
pub record IsTakenAgain (units : Members) (bytes : List ℕ) : Type 0 where
  pub file : File
  pub text : bytes ≡ file_text file
  pub accepted : IsAccepted file
  pub accepted_by_new : IsAcceptedByNew units file

-- each of these packages of groups can be packed again, and has this byte order
abbrev pub CanBePackedAgain : Endianness → (groups : List (List (List ℕ)))
    (packages : List (List ℕ)) → ArePackedAlone groups packages → Type 0
CanBePackedAgain order [] [] each = Unit {0}
CanBePackedAgain order [] (file ∷ files) each = ⊥
CanBePackedAgain order (group ∷ groups) [] each = ⊥
CanBePackedAgain order (group ∷ groups) (file ∷ files) each =
    (packs_again each.0.state ≡ true) × (each.0.written.file.order ≡ order)
    × CanBePackedAgain order groups files each.1

-- all units of the inputs of a group have one encoding
abbrev pub HasCommonEncoding : List (List ℕ) → Type 0
HasCommonEncoding group = (encoding : Encoding) × All (IsOfEncoding encoding) group

-- bytes mean these units as an input, each once, in some order, whatever builder takes them or
-- refuses them; and what a reader of packages finds in them is just these
pub record MeansAsRead (units : Members) (bytes : List ℕ) : Type 0 where
  pub meant : List (DwarfObject × Option Meaning)
  pub meaning : input_meaning bytes ≡ Ok meant
  pub same : IsPermutation (all_meant units) meant
  pub package_of : IsPackageOf units bytes
