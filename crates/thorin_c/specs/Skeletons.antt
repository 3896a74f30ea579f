-- What the export that lists the objects of an executable answers.
use Rattle.std.specs.Prelude.{◌≡◌, ℕ, List, [], ◌∷◌, ◌++◌, length, map, take, Option, Some, None}
use Rattle.dwp_table.specs.Objects.{identifier_of}
use Rattle.thorin_errors.specs.Errors.{ErrorValue}
use Rattle.thorin_executable.specs.Skeletons.{Named}
use Rattle.thorin_c.specs.Errors.{Tells}
use Rattle.thorin_c.specs.Listing.{kind_number, written_over}
use Rattle.thorin_c.specs.declared.types.ThorinReport.{ThorinReport}
use Rattle.thorin_c.specs.declared.types.ThorinSkeleton.{ThorinSkeleton}
use Rattle.thorin_c.specs.declared.units.FirstUnits.{FirstUnits}
use Rattle.thorin_c.specs.declared.units.Room.{Room}

-- a unit by its kind and identifier, and how long the path of its object is
abbrev pub skeleton_named : Named → ThorinSkeleton
skeleton_named unit = record {
  id = identifier_of unit.0;
  path_size = length unit.1;
  kind = kind_number unit.0;
}

-- the paths one behind the other, each with a zero byte behind it
abbrev pub paths_of : List Named → List ℕ
paths_of [] = []
paths_of (unit ∷ rest) = unit.1 ++ 0 ∷ paths_of rest

-- units and their paths are written as far as there is room, and their numbers are told
pub record ListsUnits (units : List Named) (old new : List ThorinSkeleton) (before after : List ℕ)
    (count : ℕ) (report : ThorinReport) : Type 0 where
  pub names : new ≡ written_over old (map skeleton_named units)
  pub paths : after ≡ written_over before (paths_of units)
  pub number : count ≡ length units
  pub size : report.size ≡ length (paths_of units)

-- the error that ended a list is told
abbrev pub TellsEnd : Option ErrorValue → ThorinReport → Type 0
TellsEnd None report = ⊥
TellsEnd (Some error) report = Tells error report

-- which fields of a report are written: at a whole list, and at one that an error ends; the others
-- are as they were
abbrev pub TellsOfList : ThorinReport → ThorinReport → Type 0
TellsOfList old new = new ≡ record old { size = new.size }

abbrev pub TellsOfEnd : ThorinReport → ThorinReport → Type 0
TellsOfEnd old new = new ≡ record old {
  size = new.size;
  fault = new.fault;
  text_size = new.text_size;
  text = new.text;
}

-- the first of some units and of their paths, as far as there is room, and how many there are
pub record IsFirst (room : Room) (units : List Named) (first : FirstUnits) : Type 0 where
  pub names : first.names.items ≡ take room.names (map skeleton_named units)
  pub paths : first.paths.items ≡ take room.paths (paths_of units)
  pub count : first.count ≡ length units
  pub size : first.size ≡ length (paths_of units)

-- the room that a caller has
abbrev pub room_of : List ThorinSkeleton → List ℕ → Room
room_of names paths = record { names = length names; paths = length paths }
