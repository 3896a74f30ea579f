-- A sound package: what the status 0 of `check` says of the bytes of a package, and of those of the
-- executables whose units it is to have.
use Rattle.std.specs.Prelude.{◌≡◌, ◌≢◌, ℕ, ◌<◌, Bool, true, false, List, [], Option, Some, None, Ok}
use Rattle.std.specs.List.{All, Contains}
use Rattle.dwp_index.specs.Entries.{entries_from}
use Rattle.dwp_index.specs.Finding.{LiesInside}
use Rattle.dwp_index.specs.Index.{Index}
use Rattle.dwp_index.specs.Package.{Package, FoundUnit, found}
use Rattle.dwp_index.specs.declared.units.UnitEntry.{UnitEntry}
use Rattle.dwp_table.specs.Columns.{contribution_kinds}
use Rattle.thorin_executable.specs.Skeletons.{skeletons_by}
use Rattle.thorin_check.specs.Apart.{AreApart}
use Rattle.thorin_check.specs.Ends.{AllEnd}
use Rattle.thorin_check.specs.Faults.{is_bare, lacks_abbreviations, lacks_strings, is_of, IsNamed}
use Rattle.thorin_check.specs.Faults.{row_end}
use Rattle.thorin_check.specs.Indexes.{mixed_versions, lacks_column}
use Rattle.thorin_check.specs.Own.{own_of}
use Rattle.thorin_check.specs.declared.executables.Reading.{Reading}
use Rattle.thorin_find.specs.Files.{Offer}
use Rattle.std.specs.Borrow.{Bor}

-- the executables whose units a package is to have: their paths, and how they are read; and how
-- faults are printed
pub record Executables : Type 0 where
  pub paths : List (Bor (List ℕ))
  pub reading : Reading

-- the used slots of both indexes, each with the unit and the row that it names (DWARF 5, 7.3.5.3)
abbrev pub slots : Package → List UnitEntry
slots pack = entries_from pack.compilations pack.types 0 0

-- the unit that a slot names is found under its identifier, in the slot's row, and that is the
-- identifier which its own bytes give. Its ranges lie inside their sections, it has abbreviations
-- where the package has some, and each string that its string offsets name can be read
pub record IsSoundUnit (pack : Package) (slot : UnitEntry) : Type 0 where
  pub unit : FoundUnit
  pub is_found : found pack slot.object ≡ Ok (Some unit)
  pub in_row : unit.number ≡ slot.row
  pub inside : LiesInside pack.contents unit.row
  pub has_abbreviations : is_bare pack unit ≡ false
  pub own : own_of slot.object unit ≡ Some (Some slot.object)
  pub strings : AllEnd unit

-- each row of an index is named by a slot
abbrev pub AreNamed : Package → (is_types : Bool) → Option Index → Type 0
AreNamed pack is_types index =
    (row : ℕ) → 0 < row → row < row_end index → IsNamed (slots pack) is_types row

-- slots of an index that name one row have one identifier
abbrev pub NameOnce : Package → (is_types : Bool) → Type 0
NameOnce pack is_types = (a b : UnitEntry) → Contains (slots pack) a → Contains (slots pack) b
    → is_of is_types a.object ≡ true → is_of is_types b.object ≡ true → a.row ≡ b.row
    → a.object ≡ b.object

-- a package is sound
pub record IsSoundPackage (pack : Package) : Type 0 where
  pub units : All (IsSoundUnit pack) (slots pack)
  pub apart : AreApart pack (slots pack) contribution_kinds
  pub compilations_named : AreNamed pack false pack.compilations
  pub types_named : AreNamed pack true pack.types
  pub compilations_once : NameOnce pack false
  pub types_once : NameOnce pack true
  pub has_abbreviations : lacks_abbreviations pack (slots pack) ≡ false
  pub has_strings : lacks_strings pack ≡ false
  pub one_version : mixed_versions pack ≡ None
  pub has_columns : All (λ kind. lacks_column pack kind ≡ false) contribution_kinds

-- an executable was read to its end and names units, and none of these is absent from a package
pub record HasUnitsOf (offer : Offer) (reading : Reading) (pack : Package) (executable : List ℕ)
    : Type 0 where
  pub bytes : List ℕ
  pub read : offer executable (Ok bytes)
  pub whole : (skeletons_by reading.nameless bytes).1 ≡ None
  pub names : (skeletons_by reading.nameless bytes).0 ≢ []
  pub present : All (λ named. found pack named.0 ≢ Ok None) (skeletons_by reading.nameless bytes).0

-- a package is sound, and has the units that executables name
pub record IsSound (offer : Offer) (executables : Executables) (pack : Package) : Type 0 where
  pub sound : IsSoundPackage pack
  pub named : All (λ executable. HasUnitsOf offer executables.reading pack executable.now)
      executables.paths
