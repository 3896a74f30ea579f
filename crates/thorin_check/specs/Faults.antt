-- The faults of a package that `check` tells.
use Rattle.std.specs.Prelude.{◌≡◌, ◌≢◌, ◌⊎◌, ℕ, ◌+◌, ◌<◌, max, nat_lt, Bool, true, false, not, ◌&&◌}
use Rattle.std.specs.Prelude.{◌==◌, if◌then◌else◌, List, [], ◌∷◌, ◌++◌, codes, map, length, Option}
use Rattle.std.specs.Prelude.{Some, None, is_none, Result, Ok, Err, get_or, nat_le}
use Rattle.std.specs.Fmt.{decimal}
use Rattle.std.specs.List.{All, Contains, flat_map, range_with_len}
use Rattle.dwp_base.specs.Sections.{name_of}
use Rattle.dwp_base.specs.declared.section.SectionKind.TheVariants.{Abbrev, Str, StrOffsets}
use Rattle.dwp_bytes.specs.declared.error.ReadError.{ReadError}
use Rattle.dwp_index.specs.Index.{Index, range_in}
use Rattle.dwp_index.specs.Package.{Package, FoundUnit, found}
use Rattle.dwp_index.specs.declared.error.PackageError.{PackageError}
use Rattle.dwp_index.specs.declared.error.PackageError.TheVariants.{Range}
use Rattle.dwp_index.specs.declared.units.UnitEntry.{UnitEntry}
use Rattle.dwp_table.specs.declared.object.DwarfObject.{DwarfObject}
use Rattle.dwp_table.specs.declared.object.DwarfObject.TheVariants.{Compilation, TypeUnit}
use Rattle.thorin_executable.specs.Skeletons.{Named, Listed}
use Rattle.thorin_find.specs.Finding.{string_count, string_of}
use Rattle.thorin_check.specs.Overlaps.{IsClash}
use Rattle.thorin_check.specs.Own.{own_of}
use Rattle.thorin_find.specs.Lines.{short_kind}
use Rattle.thorin_print.specs.Lines.{hex16}
use Rattle.dwp_table.specs.Objects.{identifier_of}
use Rattle.thorin_print.specs.Shown.{shown, shown_briefly}
use Rattle.thorin_check.specs.Rendering.{FaultValue, of_unit, of_package, of_executable}
use Rattle.thorin_check.specs.Telling.{IsNone, IsFault, ForEach}
use Rattle.thorin_words.specs.Printed.{printed}
use Rattle.dwp_index.specs.Contents.{content}

-- ---- units

-- a fault of a unit, with the text of an error
abbrev pub IsSomeFault : DwarfObject → List FaultValue → Type 0
IsSomeFault object faults = (text : List ℕ) × IsFault (of_unit object text) faults

-- what is told where the package reader can't read what the index says of a unit
abbrev pub IsUnread : DwarfObject → PackageError → List FaultValue → Type 0
IsUnread object (Range kind) faults = IsFault (of_unit object
    (codes "its range of " ++ (name_of kind ++ codes " is outside the section"))) faults
IsUnread object _ faults = IsSomeFault object faults

-- what is told of a unit whose own bytes give another identifier, or of one whose own identifier
-- can't be read
abbrev pub own_text : DwarfObject → List ℕ
own_text own = codes "its own identifier is " ++ (short_kind own
    ++ (codes " 0x" ++ hex16 (identifier_of own)))

abbrev pub unread_own_text : (cause : List ℕ) → List ℕ
unread_own_text cause = codes "its own identifier can't be read: " ++ cause

-- what is told of a unit by the identifier that its own bytes give: nothing where that is its own,
-- and else a fault, as where it has none, or none that can be read
abbrev pub TellsOwn : DwarfObject → Option (Option DwarfObject) → List FaultValue → Type 0
TellsOwn object (Some (Some own)) faults = ((own ≡ object) × IsNone faults)
    ⊎ ((own ≢ object) × IsFault (of_unit object (own_text own)) faults)
TellsOwn object (Some None) faults =
    IsFault (of_unit object (codes "it has no identifier of its own")) faults
TellsOwn object None faults =
    (cause : List ℕ) × IsFault (of_unit object (unread_own_text cause)) faults

-- what is told of a unit whose ranges clash with those of another
abbrev pub TellsClash : Package → DwarfObject → FoundUnit → List FaultValue → Type 0
TellsClash pack object unit faults =
    (text : List ℕ) × IsClash pack unit text × IsFault (of_unit object text) faults

-- what is told of a unit by its ranges and its own bytes: a clash, or what its own identifier gives
abbrev pub TellsItself : Package → DwarfObject → FoundUnit → List FaultValue → Type 0
TellsItself pack object unit faults = TellsClash pack object unit faults
    ⊎ TellsOwn object (own_of object unit) faults

-- a package has abbreviations
abbrev pub has_abbreviations : Package → Bool
has_abbreviations pack = not (length (content pack.contents Abbrev) == 0)

-- a package that has units has no section of abbreviations, or an empty one. Every unit needs
-- abbreviations (DWARF 5, 7.5.3), and packing refuses a package without them
abbrev pub lacks_abbreviations : Package → List UnitEntry → Bool
lacks_abbreviations pack entries =
    not (length entries == 0) && (length (content pack.contents Abbrev) == 0)

-- a package that has string offsets (DWARF 5, 7.26) has no section of strings, or an empty one. The
-- standard allows it where no offset names a string; but packing refuses such a package, or the one
-- that it makes of it
abbrev pub lacks_strings : Package → Bool
lacks_strings pack =
    not (length (content pack.contents StrOffsets) == 0) &&
    (length (content pack.contents Str) == 0)

-- the row of a unit has no abbreviations, though the package has some: every unit's header names
-- some (DWARF 5, 7.5.1.1)
abbrev pub is_bare : Package → FoundUnit → Bool
is_bare pack unit = has_abbreviations pack && is_none (range_in unit.row Abbrev)

-- what is told of the unit that is found in the row of a slot
abbrev pub TellsInRow : Package → DwarfObject → FoundUnit → (bare : Bool) → List FaultValue → Type 0
TellsInRow pack object unit true faults =
    IsFault (of_unit object (codes "its row has no abbreviations")) faults
TellsInRow pack object unit false faults = TellsItself pack object unit faults

-- what is told of the unit that is found under the identifier of a slot
abbrev pub TellsFound : Package → UnitEntry → FoundUnit → List FaultValue → Type 0
TellsFound pack entry unit faults =
    ((unit.number ≢ entry.row)
    × IsFault (of_unit entry.object (codes "found in row " ++ decimal unit.number)) faults)
    ⊎ ((unit.number ≡ entry.row)
    × TellsInRow pack entry.object unit (is_bare pack unit) faults)

abbrev pub TellsLooked : Package → UnitEntry → Result (Option FoundUnit) PackageError
    → List FaultValue → Type 0
TellsLooked pack entry (Err cause) faults = IsUnread entry.object cause faults
TellsLooked pack entry (Ok None) faults =
    IsFault (of_unit entry.object (codes "not found under its identifier")) faults
TellsLooked pack entry (Ok (Some unit)) faults = TellsFound pack entry unit faults

-- what is told of the unit that a slot names
unfoldable pub TellsUnit : Package → UnitEntry → List FaultValue → Type 0
TellsUnit pack entry faults = TellsLooked pack entry (found pack entry.object) faults

-- ---- strings

abbrev pub string_text : ℕ → List ℕ → List ℕ
string_text i text = codes "string " ++ (decimal i ++ (codes " can't be read: " ++ text))

-- what is told of a unit's string: an error, if there is one
abbrev pub TellsString : DwarfObject → ℕ → Result (Option (List ℕ)) ReadError → List FaultValue
    → Type 0
TellsString object i (Ok string) faults = IsNone faults
TellsString object i (Err cause) faults =
    (text : List ℕ) × IsFault (of_unit object (string_text i text)) faults

-- the strings of a unit, each with its number
abbrev pub strings_of : FoundUnit → List (ℕ × Result (Option (List ℕ)) ReadError)
strings_of unit = map (λ i. (i, string_of unit i)) (range_with_len 0 (string_count unit))

abbrev pub TellsNumbered : DwarfObject → ℕ × Result (Option (List ℕ)) ReadError → List FaultValue
    → Type 0
TellsNumbered object s faults = TellsString object s.0 s.1 faults

-- what is told of all strings of a unit
abbrev pub TellsStrings : DwarfObject → FoundUnit → List FaultValue → Type 0
TellsStrings object unit faults = ForEach (TellsNumbered object) (strings_of unit) faults

abbrev pub TellsStringsOf : DwarfObject → Result (Option FoundUnit) PackageError
    → List FaultValue → Type 0
TellsStringsOf object (Ok (Some unit)) faults = TellsStrings object unit faults
TellsStringsOf object _ faults = IsNone faults

-- ---- rows

-- what is told of a row that no slot names
unfoldable pub row_text : (kind : List ℕ) → ℕ → List ℕ
row_text kind row = kind ++ (codes " row " ++ (decimal row ++ codes ": no slot names it"))

-- the fault of a row that no slot names
abbrev pub row_fault : (kind : List ℕ) → ℕ → FaultValue
row_fault kind row = of_package (row_text kind row)

-- an object is a type unit, or a compilation unit
abbrev pub is_of : (is_types : Bool) → DwarfObject → Bool
is_of false (Compilation id) = true
is_of false (TypeUnit signature) = false
is_of true (Compilation id) = false
is_of true (TypeUnit signature) = true

-- one of the slots names a row of an index
pub record IsNamed (slots : List UnitEntry) (is_types : Bool) (row : ℕ) : Type 0 where
  pub slot : UnitEntry
  pub is_slot : Contains slots slot
  pub is_kind : is_of is_types slot.object ≡ true
  pub is_row : slot.row ≡ row

-- a row is one of those before an end, and no slot names it
abbrev pub IsUnnamed : List UnitEntry → (is_types : Bool) → (end row : ℕ) → Type 0
IsUnnamed slots is_types end row =
    (0 < row) × (row < end) × (IsNamed slots is_types row → ⊥)

-- faults of rows of an index: of each row that no slot names, and of no other
pub record TellsRowsOf (kind : List ℕ) (is_types : Bool) (end : ℕ) (slots : List UnitEntry)
    (faults : List FaultValue) : Type 0 where
  pub rows : List ℕ
  pub are : faults ≡ map (row_fault kind) rows
  pub unnamed : All (IsUnnamed slots is_types end) rows
  pub others : (row : ℕ) → 0 < row → row < end → Contains rows row ⊎ IsNamed slots is_types row

-- the number behind that of the last row of an index; rows count from 1
abbrev pub row_end : Option Index → ℕ
row_end None = 1
row_end (Some index) = length index.offsets + 1

-- ---- executables

-- what is told of a unit that an executable names and the package lacks
abbrev pub missing_text : (executable path : List ℕ) → List ℕ
missing_text executable path =
    codes "not in the package, "
    ++ (shown_briefly executable ++ (codes " names " ++ shown_briefly path))

abbrev pub missing_faults : (executable : List ℕ) → Named → Result (Option FoundUnit) PackageError
    → List FaultValue
missing_faults executable named (Ok None) = of_unit named.0 (missing_text executable named.1) ∷ []
missing_faults executable named _ = []

-- an executable can't be read to its end
abbrev pub IsBroken : (executable : List ℕ) → List FaultValue → Type 0
IsBroken executable faults =
    (text : List ℕ) × IsFault (of_executable (shown executable) (printed text)) faults

-- the longest path that Linux opens: its PATH_MAX (limits.h) counts a zero byte behind it
abbrev pub longest_path : ℕ
longest_path = 4095

-- how many bytes a path has that is longer
abbrev pub long_size : (path : List ℕ) → ℕ
long_size path = if nat_lt longest_path (length path) then length path else 0

-- how many bytes all such paths of some units have
abbrev pub long_bytes : List Named → ℕ
long_bytes [] = 0
long_bytes (named ∷ rest) = long_size named.1 + long_bytes rest

-- for how many bytes of them there is room in any case: as many as an executable has, or 4,096
abbrev pub room_of : (bytes : List ℕ) → ℕ
room_of bytes = max (length bytes) 4096

-- what is told behind the last unit that was looked for: why there are no others, if that is an
-- error, or that no more are looked for, where the next one has such a path, and those up to it
-- have more bytes than there is room for
abbrev pub TellsEnd : (executable : List ℕ) → (room : ℕ) → (first : List Named) → (left : Listed)
    → List FaultValue → Type 0
TellsEnd executable room first ([], None) faults = IsNone faults
TellsEnd executable room first ([], Some error) faults = IsBroken executable faults
TellsEnd executable room first (named ∷ left, end) faults = (longest_path < length named.1)
    × (room < long_bytes (first ++ (named ∷ []))) × IsBroken executable faults

-- what is told of the units that an executable names, up to its first error or such a path
pub record TellsListed (pack : Package) (executable : List ℕ) (room : ℕ) (listed : Listed)
    (faults : List FaultValue) : Type 0 where
  pub first : List Named
  pub left : List Named
  pub split : listed.0 ≡ first ++ left
  pub ended : List FaultValue
  pub end : TellsEnd executable room first (left, listed.1) ended
  pub all : faults ≡ flat_map (λ named. missing_faults executable named (found pack named.0))
      first ++ ended

-- an executable that can be read names no split unit: nothing of it was split, or it was stripped
abbrev pub bare_fault : (executable : List ℕ) → FaultValue
bare_fault executable = of_executable (shown executable) (codes "no split units")

-- what is told of an executable: the same, or what is told of the units that it names
abbrev pub TellsNamed : Package → (executable : List ℕ) → (room : ℕ) → Listed → List FaultValue
    → Type 0
TellsNamed pack executable room ([], None) faults = IsFault (bare_fault executable) faults
TellsNamed pack executable room listed faults = TellsListed pack executable room listed faults

-- ---- slots in the order of their rows

-- a slot names a row of an index, from one on
abbrev pub is_from : (is_types : Bool) → (row : ℕ) → UnitEntry → Bool
is_from is_types row slot = is_of is_types slot.object && nat_le row slot.row

-- slots before a place name rows of an index before one, if any
pub record ArePast (is_types : Bool) (row : ℕ) (slots : List UnitEntry) (place : ℕ)
    : Type 0 where
  pub past : (k : ℕ) (d : UnitEntry) → k < place
      → is_of is_types (get_or slots k d).object ≡ true → (get_or slots k d).row < row
