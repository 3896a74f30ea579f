-- How the units of a package lie in its sections of units: one after another, each where its row
-- says (DWARF 5, 7.3.5).
use Rattle.std.specs.Prelude.{◌≡◌, ℕ, ◌+◌, ◌<◌, Bool, true, false, List, [], ◌∷◌, ◌++◌, length}
use Rattle.std.specs.Prelude.{filter, Option, Some, None, Ok}
use Rattle.dwp_base.specs.declared.endian.Endianness.{Endianness}
use Rattle.dwp_bytes.specs.Input.{Input, section}
use Rattle.dwp_units.specs.Units.{Unit as Header, unit_at}
use Rattle.dwp_units.specs.declared.unit.UnitSection.{UnitSection}
use Rattle.dwp_units.specs.declared.unit.UnitSection.TheVariants as places
use Rattle.dwp_units.specs.declared.unit.UnitType.{UnitType}
use Rattle.dwp_units.specs.declared.unit.UnitType.TheVariants as unit_types
use Rattle.dwp_elf.specs.Contents.{content_of}
use Rattle.dwp_index.specs.Package.{kind_of, place_of}
use Rattle.dwp_table.specs.declared.object.DwarfObject.{DwarfObject}
use Rattle.dwp_table.specs.declared.object.DwarfObject.TheVariants.{Compilation, TypeUnit}
use Rattle.thorin_index.specs.Entries.{contribution_to}
use Rattle.thorin_index.specs.declared.entry.IndexEntry.{IndexEntry}
use Rattle.thorin_join.specs.State.{InProgress}

-- the signature in a type unit's header
abbrev pub type_signature : UnitType → Option ℕ
type_signature (unit_types.TypeUnit signature offset) = Some signature
type_signature (unit_types.SplitType signature offset) = Some signature
type_signature _ = None

-- the signature in a type unit's name
abbrev pub name_signature : DwarfObject → Option ℕ
name_signature (Compilation id) = None
name_signature (TypeUnit signature) = Some signature.0

-- bytes are those of one whole unit of that name
pub record IsWhole (order : Endianness) (place : UnitSection) (name : DwarfObject)
    (bytes : List ℕ) : Type 0 where
  pub unit : Header
  pub rest : Input
  pub read : unit_at place (section order bytes) ≡ Ok (unit, rest)
  pub whole : unit.whole.bytes ≡ bytes
  pub some : 0 < length bytes
  pub sort : type_signature unit.unit_type ≡ name_signature name

-- the rows of the units that stand in a section
abbrev pub same_place : UnitSection → UnitSection → Bool
same_place places.Info places.Info = true
same_place places.Types places.Types = true
same_place _ _ = false

abbrev pub is_at : UnitSection → IndexEntry → Bool
is_at place row = same_place place (place_of row.id row.debug_types)

abbrev pub rows_at : UnitSection → List IndexEntry → List IndexEntry
rows_at place rows = filter (is_at place) rows

-- bytes begin with those of a row's unit, which the row puts at this offset
pub record Heads (order : Endianness) (place : UnitSection) (offset : ℕ) (row : IndexEntry)
    (bytes : List ℕ) : Type 0 where
  pub own : List ℕ
  pub rest : List ℕ
  pub are : bytes ≡ own ++ rest
  pub range : contribution_to (kind_of place) row
      ≡ Some (record { offset = record { 0 = offset }; size = length own })
  pub is : IsWhole order place row.id own

-- from this offset on, bytes are those of the units of these rows, one after another
abbrev pub Lie : Endianness → UnitSection → ℕ → List IndexEntry → List ℕ → Type 0
Lie order place offset [] bytes = bytes ≡ []
Lie order place offset (row ∷ rows) bytes = (head : Heads order place offset row bytes)
    × Lie order place (offset + length head.own) rows head.rest

-- a row has no range in the section that its unit doesn't stand in
abbrev pub HaveOneRange : List IndexEntry → Type 0
HaveOneRange [] = Unit {0}
HaveOneRange (row ∷ rows) =
    ((place : UnitSection) → is_at place row ≡ false → contribution_to (kind_of place) row ≡ None)
    × HaveOneRange rows

-- the sections of units of a package are the bytes of its rows' units
pub record IsLaid (made : InProgress) : Type 0 where
  pub info : Lie made.file.order places.Info 0 (rows_at places.Info made.rows)
      (content_of (kind_of places.Info) made.file.contents)
  pub types : Lie made.file.order places.Types 0 (rows_at places.Types made.rows)
      (content_of (kind_of places.Types) made.file.contents)
  pub once : HaveOneRange made.rows
