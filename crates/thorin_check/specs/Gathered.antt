-- The units of a package whose strings are still to be checked.
use Rattle.std.specs.Prelude.{◌≡◌, ◌⊎◌, ℕ, List, Option, Some, None, Result, [], Ok}
use Rattle.std.specs.List.{All, Contains, AllPairs}
use Rattle.std.specs.Result.{result_err}
use Rattle.dwp_base.specs.declared.section.SectionKind.TheVariants.{Str, StrOffsets}
use Rattle.dwp_bytes.specs.StringOffsets.{string_in}
use Rattle.dwp_bytes.specs.declared.error.ReadError.{ReadError}
use Rattle.dwp_index.specs.Contents.{content}
use Rattle.dwp_index.specs.Package.{Package, FoundUnit, part_of, found}
use Rattle.dwp_table.specs.declared.object.DwarfObject.{DwarfObject}
use Rattle.thorin_check.specs.Ends.{HasEnds}
use Rattle.thorin_check.specs.declared.strings.StringRange.{StringRange}
use Rattle.thorin_check.specs.declared.strings.UnreadStrings.{UnreadStrings}
use Rattle.thorin_check.specs.Strings.{HasOffsets, IsRangeOfOne, ShareNone, range_of}
use Rattle.thorin_check.specs.Rendering.{FaultValue}
use Rattle.thorin_check.specs.Checking.{TellsStringsOfAll}
use Rattle.dwp_index.specs.declared.error.PackageError.{PackageError}
use Rattle.dwp_index.specs.declared.units.UnitEntry.{UnitEntry}
use Rattle.thorin_check.specs.Faults.{TellsUnit}
use Rattle.thorin_check.specs.Remembered.{Knows}
use Rattle.thorin_check.specs.declared.units.Seen.{Seen}

abbrev pub Listed : Type 0
Listed = List (StringRange × DwarfObject)

-- string offsets, and a unit that has them
abbrev pub IsOfUnit : Package → StringRange × DwarfObject → Type 0
IsOfUnit pack listed = HasOffsets pack listed.1 listed.0

-- string offsets are listed
abbrev pub Lists : Listed → StringRange → Type 0
Lists listed range = (object : DwarfObject) × Contains listed (range, object)

-- a string of string offsets, by its number
abbrev pub string_by : Package → StringRange → ℕ → Result (Option (List ℕ)) ReadError
string_by pack range i = string_in pack.order (record {
  version = range.version;
  format = range.format;
  address_size = 0;
}) (content pack.contents Str) (part_of (content pack.contents StrOffsets) (Some (record {
  offset = record { 0 = range.offset };
  size = range.size;
}))) i

-- all of them can be read
abbrev pub AllEndIn : Package → StringRange → Type 0
AllEndIn pack range = (i : ℕ) → result_err (string_by pack range i) ≡ None

-- their strings can all be read, or they are listed
abbrev pub IsGathered : Package → Listed → StringRange → Type 0
IsGathered pack listed range = AllEndIn pack range ⊎ Lists listed range

-- what is known of the units whose strings are still to be checked
pub record Gathers (pack : Package) (strings : UnreadStrings) : Type 0 where
  pub ends : HasEnds strings.ends pack.order (content pack.contents Str)
  pub last : (range : StringRange) → strings.last ≡ Some range
      → IsGathered pack strings.unread.items range
  pub are : All (IsOfUnit pack) strings.unread.items

-- a unit was gathered, and those before
pub record Adds (pack : Package) (old new : UnreadStrings) (unit : FoundUnit) : Type 0 where
  pub gathers : Gathers pack new
  pub kept : (range : StringRange) → IsGathered pack old.unread.items range
      → IsGathered pack new.unread.items range
  pub added : (range : StringRange) → range_of unit ≡ Some range
      → IsGathered pack new.unread.items range

-- what is told of the strings of a list of string offsets and units that have them, each string
-- offsets' once
pub record TellsListed (pack : Package) (listed : Listed) (faults : List FaultValue) : Type 0 where
  pub objects : List DwarfObject
  pub once : AllPairs (ShareNone pack) objects
  pub told : TellsStringsOfAll pack objects faults
  pub others : (range : StringRange) → Lists listed range → IsRangeOfOne pack objects range

-- ---- what is remembered of the units of a package

-- what is remembered of a package is so
pub record IsSeen (pack : Package) (seen : Seen) : Type 0 where
  pub knows : Knows pack seen.abbreviations
  pub gathers : Gathers pack seen.strings

-- and what was gathered before still is
pub record GoesOn (pack : Package) (old new : Seen) : Type 0 where
  pub seen : IsSeen pack new
  pub kept : (range : StringRange) → IsGathered pack old.strings.unread.items range
      → IsGathered pack new.strings.unread.items range

-- the string offsets of a unit are gathered, where it has some
abbrev pub Gathered : Package → Listed → FoundUnit → Type 0
Gathered pack listed unit =
    (range : StringRange) → range_of unit ≡ Some range → IsGathered pack listed range

-- the same of a unit that is found
abbrev pub IsGatheredIn : Package → Listed → Result (Option FoundUnit) PackageError → Type 0
IsGatheredIn pack listed (Ok (Some unit)) = Gathered pack listed unit
IsGatheredIn pack listed _ = Unit {0}

-- what is told of a unit that a slot names; where that is nothing, its string offsets are gathered
abbrev pub TellsSeen : Package → Listed → UnitEntry → List FaultValue → Type 0
TellsSeen pack listed entry faults = TellsUnit pack entry faults
    × (faults ≡ [] → IsGatheredIn pack listed (found pack entry.object))
