-- What the values of this crate stand for, and what a list says where memory ran out.
use Rattle.std.specs.Prelude.{◌≡◌, ℕ, IsTrue, List, [], ◌∷◌, length, map, take, Option, Some, None}
use Rattle.std.specs.Prelude.{Result, Ok, Err, option_map, string_bytes}
use Rattle.dwp_bytes.specs.Input.{Input}
use Rattle.dwp_dwarf.specs.Sections.{strings_of}
use Rattle.thorin_errors.specs.declared.error.Error.{Error}
use Rattle.thorin_errors.specs.Answers.{MemoryAside}
use Rattle.thorin_errors.specs.Errors.{error_of}
use Rattle.thorin_executable.specs.declared.loading.DebugData.{DebugData as Data}
use Rattle.thorin_executable.specs.declared.listing.NamedUnit.{NamedUnit}
use Rattle.thorin_executable.specs.declared.listing.Skeleton.{Skeleton}
use Rattle.thorin_executable.specs.declared.listing.SkeletonList.{SkeletonList}
use Rattle.thorin_executable.specs.Sections.{DebugData}
use Rattle.thorin_executable.specs.Skeletons.{Named, Listed, NamedLeft}

-- the sections of an executable, as readers show them
abbrev pub data_of : {R : Type 0} → (R → Input) → Data R → DebugData
data_of input d = record {
  debug_abbrev = input d.debug_abbrev;
  debug_info = input d.debug_info;
  strings = strings_of input d.strings;
}

-- a split unit, and the path of its object
abbrev pub named : Skeleton → Named
named s = (s.target, string_bytes s.path)

-- the same of a unit whose path is told beside it
abbrev pub named_at : List ℕ → NamedUnit → Named
named_at path unit = (unit.target, path)

-- a list of them, and the error that ended it
abbrev pub listed : SkeletonList → Listed
listed l = (map named l.units.items, option_map error_of l.fault)

-- nothing was lacking, or the error isn't want of memory
abbrev pub UnlessMemory : Option Error → Type 0 → Type 0
UnlessMemory None P = P
UnlessMemory (Some e) P = MemoryAside e P

-- the units of a list are the first of what is meant
abbrev pub IsFront : SkeletonList → Listed → Type 0
IsFront l meaning = take (length l.units.items) meaning.0 ≡ map named l.units.items

-- what reading of a list begins with: all of it; or the error that comes before any unit
abbrev pub IsOpened : Result Listed Error → Listed → Type 0
IsOpened (Ok left) meaning = meaning ≡ left
IsOpened (Err e) meaning = MemoryAside e (meaning ≡ ([], Some (error_of e)))

-- the same where the path of the unit that came last is kept beside the list
abbrev pub IsOpenedNamed : Result NamedLeft Error → Listed → Type 0
IsOpenedNamed (Ok left) meaning = meaning ≡ left.listed
IsOpenedNamed (Err e) meaning = MemoryAside e (meaning ≡ ([], Some (error_of e)))

-- what is answered next of a list, and what is left of it: its first unit; or its end; or the error
-- that ends it
abbrev pub IsNext : Listed → Result (Option Skeleton) Error → Listed → Type 0
IsNext meaning (Ok (Some first)) left = meaning ≡ (named first ∷ left.0, left.1)
IsNext meaning (Ok None) left = (meaning ≡ ([], None)) × (left ≡ ([], None))
IsNext meaning (Err e) left = MemoryAside e (meaning ≡ ([], Some (error_of e)))

-- the same of a unit whose path is told beside it
abbrev pub IsNextNamed : Listed → Result (Option NamedUnit) Error → List ℕ → Listed → Type 0
IsNextNamed meaning (Ok (Some first)) path left = meaning ≡ (named_at path first ∷ left.0, left.1)
IsNextNamed meaning (Ok None) path left = (meaning ≡ ([], None)) × (left ≡ ([], None))
IsNextNamed meaning (Err e) path left = MemoryAside e (meaning ≡ ([], Some (error_of e)))

-- what becomes of the path that came last: it stays where a unit repeats it, where none comes, and
-- where there is an error
abbrev pub IsPathAfter : Result (Option NamedUnit) Error → (old new : List ℕ) → Type 0
IsPathAfter (Ok (Some unit)) old new = IsTrue unit.is_repeated → new ≡ old
IsPathAfter (Ok None) old new = new ≡ old
IsPathAfter (Err e) old new = new ≡ old

-- what all that was left became: units, and the error that ended them
abbrev pub IsPushed : Listed → Result (Unit {0}) Error → List Skeleton → Type 0
IsPushed meaning (Ok x) units = meaning ≡ (map named units, None)
IsPushed meaning (Err e) units = MemoryAside e (meaning ≡ (map named units, Some (error_of e)))
    × (take (length units) meaning.0 ≡ map named units)
