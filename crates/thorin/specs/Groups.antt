-- Packing in groups: each group of inputs into a package of its own, and then these packages into
-- one (DWARF 5, 7.3.5).
use Rattle.std.specs.Prelude.{◌≡◌, ℕ, true, List, [], ◌∷◌, ◌++◌, map, Result, Ok, Err}
use Rattle.std.specs.Prelude.{IsPermutation, ◌⊎◌}
use Rattle.std.specs.Borrow.{Bor}
use Rattle.std.specs.List.{flat_map}
use Rattle.std.specs.Map.{lookup}
use Rattle.dwp_base.specs.Reading.{◌>>=◌}
use Rattle.dwp_table.specs.declared.object.DwarfObject.{DwarfObject}
use Rattle.thorin_errors.specs.declared.error.Error.{Error}
use Rattle.thorin_errors.specs.Errors.{ErrorValue, error_of}
use Rattle.thorin_errors.specs.Answers.{MemoryAside}
use Rattle.thorin_again.specs.Again.{HaveEncodingOf}
use Rattle.thorin_join.specs.Builder.{State, start, taken}
use Rattle.thorin_join.specs.Join.{JoinAll, IsPackageOf}
use Rattle.thorin_join.specs.Meaning.{Members, joining, can_join}
use Rattle.thorin_input.specs.Names.{same_name}
use Rattle.thorin_join.specs.Represents.{units_in}
use Rattle.thorin.specs.Run.{IsWritten, RefusesToWrite}

-- the bytes of inputs, and those of groups of inputs
abbrev pub bytes_in : List (Bor (List ℕ)) → List (List ℕ)
bytes_in inputs = map (λ input. input.now) inputs

abbrev pub groups_in : List (Bor (List (Bor (List ℕ)))) → List (List (List ℕ))
groups_in groups = map (λ group. bytes_in group.now) groups

-- the state once each of some inputs was taken, or the first error
unfoldable pub taken_each : List (List ℕ) → State → Result State ErrorValue
taken_each [] state = Ok state
taken_each (bytes ∷ rest) state = do
  next ← taken bytes state
  taken_each rest next

-- inputs packed alone: each was taken, and the package of the units that they join was written
pub record IsPackedAlone (inputs : List (List ℕ)) (file : List ℕ) : Type 0 where
  pub state : State
  pub taken : taken_each inputs start ≡ Ok state
  pub joined : JoinAll inputs [] (units_in state)
  pub written : IsWritten state file
  pub package_of : IsPackageOf (units_in state) file

-- all inputs were taken, and what they make isn't written for this error
pub record IsUnwritten (inputs : List (List ℕ)) (error : ErrorValue) : Type 0 where
  pub state : State
  pub taken : taken_each inputs start ≡ Ok state
  pub refused : RefusesToWrite state error

-- the first error of packing inputs alone: of an input, else of finishing or writing
abbrev pub RefusesAlone : List (List ℕ) → ErrorValue → Type 0
RefusesAlone inputs error = (taken_each inputs start ≡ Err error) ⊎ IsUnwritten inputs error

-- what packing inputs alone gives, want of memory aside
abbrev pub PacksAlone : {V : Type 0} → (V → List ℕ) → List (List ℕ) → Result V Error → Type 0
PacksAlone view inputs (Ok file) = IsPackedAlone inputs (view file)
PacksAlone view inputs (Err e) = MemoryAside e (RefusesAlone inputs (error_of e))

-- each group has its package
abbrev pub ArePackedAlone : List (List (List ℕ)) → List (List ℕ) → Type 0
ArePackedAlone [] [] = Unit {0}
ArePackedAlone [] (file ∷ files) = ⊥
ArePackedAlone (group ∷ groups) [] = ⊥
ArePackedAlone (group ∷ groups) (file ∷ files) =
    IsPackedAlone group file × ArePackedAlone groups files

-- groups packed: a package of each, and the one of these
pub record IsPackedInGroups (groups : List (List (List ℕ))) (file : List ℕ) : Type 0 where
  pub packages : List (List ℕ)
  pub each : ArePackedAlone groups packages
  pub together : IsPackedAlone packages file

-- a group is refused, and those before it were packed
pub record RefusesGroup (groups : List (List (List ℕ))) (error : ErrorValue) : Type 0 where
  pub before : List (List (List ℕ))
  pub group : List (List ℕ)
  pub after : List (List (List ℕ))
  pub are : groups ≡ before ++ group ∷ after
  pub packages : List (List ℕ)
  pub each : ArePackedAlone before packages
  pub refused : RefusesAlone group error

-- every group was packed, and their packages are refused
pub record RefusesPackages (groups : List (List (List ℕ))) (error : ErrorValue) : Type 0 where
  pub packages : List (List ℕ)
  pub each : ArePackedAlone groups packages
  pub refused : RefusesAlone packages error

-- what packing in groups gives: the package, or the first error, want of memory aside
abbrev pub PacksInGroups : {V : Type 0} → (V → List ℕ) → List (List (List ℕ))
    → Result V Error → Type 0
PacksInGroups view groups (Ok file) = IsPackedInGroups groups (view file)
PacksInGroups view groups (Err e) =
    MemoryAside e (RefusesGroup groups (error_of e) ⊎ RefusesPackages groups (error_of e))

-- the units of groups, each group's in order, joined to no names; and what came of it, in any order
abbrev pub AreJoined : {X : Type 0} → (groups results : List (List (DwarfObject × X))) → Type 0
AreJoined [] [] = Unit {0}
AreJoined [] (result ∷ results) = ⊥
AreJoined (group ∷ groups) [] = ⊥
AreJoined (group ∷ groups) (result ∷ results) =
    (can_join [] group ≡ true) × IsPermutation (joining [] group) result × AreJoined groups results

-- each unit of each of these packages has the encoding of its package's first unit (DWARF 5, 7.5.1)
abbrev pub HaveTheirEncodings : (groups : List (List (List ℕ))) (packages : List (List ℕ))
    → ArePackedAlone groups packages → Type 0
HaveTheirEncodings [] [] each = Unit {0}
HaveTheirEncodings [] (file ∷ files) each = ⊥
HaveTheirEncodings (group ∷ groups) [] each = ⊥
HaveTheirEncodings (group ∷ groups) (file ∷ files) each =
    HaveEncodingOf file (units_in each.0.state) × HaveTheirEncodings groups files each.1

-- the inputs of all groups, in order
abbrev pub inputs_of : List (List (List ℕ)) → List (List ℕ)
inputs_of groups = flat_map (λ group. group) groups

-- a file is a package of the units that some inputs join, in another order perhaps: as a map from
-- names they are the same
pub record IsPackageOfAll (inputs : List (List ℕ)) (file : List ℕ) : Type 0 where
  pub units : Members
  pub joined : JoinAll inputs [] units
  pub packed : Members
  pub same : IsPermutation units packed
  pub found : (name : DwarfObject) → lookup (same_name name) packed ≡ lookup (same_name name) units
  pub package_of : IsPackageOf packed file
