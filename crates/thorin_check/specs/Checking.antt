-- What `check` prints.
use Rattle.std.specs.Prelude.{◌≡◌, ◌≢◌, ◌⊎◌, ℕ, Bool, true, false, ◌==◌, List, [], ◌∷◌, ◌++◌, codes}
use Rattle.std.specs.Prelude.{length, if◌then◌else◌, Option, Result, Ok, Err}
use Rattle.std.specs.Borrow.{Bor}
use Rattle.std.specs.List.{AllPairs, flat_map}
use Rattle.std.specs.declared.io.Error.{Error as IoError}
use Rattle.std.specs.Io.KnownBytes.{Appends, Keeps}
use Rattle.dwp_base.specs.declared.section.SectionKind.{SectionKind}
use Rattle.dwp_base.specs.declared.section.SectionKind.TheVariants.{Abbrev, Str}
use Rattle.dwp_index.specs.Package.{Package, package_of, found}
use Rattle.dwp_index.specs.declared.error.PackageError.{PackageError}
use Rattle.dwp_index.specs.declared.units.UnitEntry.{UnitEntry}
use Rattle.dwp_table.specs.declared.object.DwarfObject.{DwarfObject}
use Rattle.thorin_executable.specs.Skeletons.{skeletons_by}
use Rattle.thorin_find.specs.Files.{Offer, RefusesFile}
use Rattle.thorin_print.specs.declared.form.Form.{Form}
use Rattle.thorin_check.specs.Rendering.{FaultValue, fault_text, totals_text}
use Rattle.thorin_check.specs.Faults.{TellsUnit, TellsStringsOf, TellsRowsOf, row_end, TellsNamed}
use Rattle.thorin_check.specs.Faults.{lacks_abbreviations, lacks_strings, room_of}
use Rattle.thorin_find.specs.Listing.{AreByRow, has_no_index}
use Rattle.thorin_print.specs.Answers.{Grows, IsOfPrinting}
use Rattle.thorin_check.specs.Telling.{InTurn, ForEach, Is, fault_count}
use Rattle.dwp_table.specs.Columns.{contribution_kinds}
use Rattle.thorin_check.specs.Apart.{AreApart}
use Rattle.thorin_check.specs.Sound.{Executables, IsSound}
use Rattle.thorin_check.specs.Indexes.{TellsIndexes, section_faults}
use Rattle.thorin_check.specs.Strings.{HasStringsIn, ShareNone}
use Rattle.thorin_check.specs.declared.executables.Reading.{Reading}
use Rattle.thorin_print.specs.declared.output.Failure.{Failure}
use Rattle.thorin_print.specs.declared.output.Failure.TheVariants as failures

-- the status: 1 where there are faults
abbrev pub status_of : (faults : ℕ) → ℕ
status_of faults = if faults == 0 then 0 else 1

-- ---- what is told

-- what is told of a unit that a slot names; where that is nothing, its strings can all be read, or
-- are those of one of these units
abbrev pub TellsSlot : Package → List DwarfObject → UnitEntry → List FaultValue → Type 0
TellsSlot pack objects entry faults = TellsUnit pack entry faults
    × (faults ≡ [] → HasStringsIn pack objects (found pack entry.object))

-- the same of all such units; where that is nothing, none of their ranges clash
abbrev pub TellsSlots : Package → List DwarfObject → List UnitEntry → List FaultValue → Type 0
TellsSlots pack objects entries faults = ForEach (TellsSlot pack objects) entries faults
    × (faults ≡ [] → AreApart pack entries contribution_kinds)

-- what is told of the strings of these units
abbrev pub TellsStringsOfAll : Package → List DwarfObject → List FaultValue → Type 0
TellsStringsOfAll pack objects = ForEach (λ object. TellsStringsOf object (found pack object))
    objects

-- what is told of the units that slots name, and then of the strings of some of them, which are all
-- whose strings can't all be read, but each string offsets' once
abbrev pub TellsUnits : Package → List UnitEntry → List FaultValue → Type 0
TellsUnits pack entries faults = (objects : List DwarfObject) × AllPairs (ShareNone pack) objects
    × InTurn (TellsSlots pack objects entries) (TellsStringsOfAll pack objects) faults

-- what is told of the rows of both indexes
abbrev pub TellsRows : Package → List UnitEntry → List FaultValue → Type 0
TellsRows pack entries =
    InTurn (TellsRowsOf (codes "cu") false (row_end pack.compilations) entries)
    (TellsRowsOf (codes "tu") true (row_end pack.types) entries)

abbrev pub lacking_faults : SectionKind → (lacks : Bool) → List FaultValue
lacking_faults kind lacks = section_faults kind lacks (codes " is empty or absent")

-- what is told of the sections of abbreviations and of strings
abbrev pub TellsSections : (no_abbreviations no_strings : Bool) → List FaultValue → Type 0
TellsSections no_abbreviations no_strings =
    InTurn (Is (lacking_faults Abbrev no_abbreviations)) (Is (lacking_faults Str no_strings))

-- the same, and what is told of the indexes and of their rows
abbrev pub TellsTables : Package → List UnitEntry → List FaultValue → Type 0
TellsTables pack entries =
    InTurn (TellsSections (lacks_abbreviations pack entries) (lacks_strings pack))
    (InTurn (TellsIndexes pack) (TellsRows pack entries))

-- what is told of the executable at a path
pub record TellsExecutable (offer : Offer) (reading : Reading) (pack : Package)
    (executable : List ℕ) (faults : List FaultValue) : Type 0 where
  pub bytes : List ℕ
  pub read : offer executable (Ok bytes)
  pub tells : TellsNamed pack executable (room_of bytes)
      (skeletons_by reading.nameless bytes) faults

abbrev pub TellsExecutables : Offer → (reading : Reading) → Package → List (Bor (List ℕ))
    → List FaultValue → Type 0
TellsExecutables offer reading pack executables =
    ForEach (λ executable. TellsExecutable offer reading pack executable.now) executables

-- all that is told of a package: of its units, its abbreviations, its strings, its rows, and the
-- units that executables name
abbrev pub TellsPackage : Offer → Executables → Package → List UnitEntry → List FaultValue → Type 0
TellsPackage offer executables pack entries =
    InTurn (TellsUnits pack entries)
    (InTurn (TellsTables pack entries)
    (TellsExecutables offer executables.reading pack executables.paths))

-- ---- what comes of it

-- one of the executables can't be read
abbrev pub FailsOne : Offer → List (Bor (List ℕ)) → Type 0
FailsOne offer [] = ⊥
FailsOne offer (executable ∷ executables) =
    ((cause : IoError) × offer executable.now (Err cause)) ⊎ FailsOne offer executables

-- a line can't be written, memory ran out, or the file at a path can't be read
abbrev pub IsOfReading : Offer → (path : List ℕ) → Failure → Type 0
IsOfReading offer path failures.Input = (cause : IoError) × offer path (Err cause)
IsOfReading offer path failures.Line = Unit {0}
IsOfReading offer path failures.Memory = Unit {0}
IsOfReading offer path _ = ⊥

-- the same, of any of the executables
abbrev pub IsOfChecking : Offer → List (Bor (List ℕ)) → Failure → Type 0
IsOfChecking offer executables failures.Input = FailsOne offer executables
IsOfChecking offer executables failures.Line = Unit {0}
IsOfChecking offer executables failures.Memory = Unit {0}
IsOfChecking offer executables _ = ⊥

-- a last text was printed to its end, and the status answered
abbrev pub PrintsLast : (faults : ℕ) → (text : List ℕ) → (old new : Option (List ℕ))
    → Result ℕ Failure → Type 0
PrintsLast faults text old new (Ok status) =
    Appends old new text × (status ≡ status_of faults)
PrintsLast faults text old new (Err failure) = IsOfPrinting failure × Grows old new

-- the same of what waited and the totals
abbrev pub Finishes : Form → (units faults : ℕ) → (old : Option (List ℕ)) → (held : List ℕ)
    → (new : Option (List ℕ)) → Result ℕ Failure → Type 0
Finishes form units faults old held new result =
    PrintsLast faults (held ++ totals_text form units faults) old new result

-- a package was checked: all faults were printed, and behind them the totals. The status is 0 only
-- where the package is sound, and 1 only where there is a fault
pub record Checked (offer : Offer) (executables : Executables) (pack : Package)
    (old new : Option (List ℕ)) (status : ℕ) : Type 0 where
  pub entries : List UnitEntry
  pub by_row : AreByRow pack entries
  pub faults : List FaultValue
  pub told : TellsPackage offer executables pack entries faults
  pub printed : Appends old new
      (flat_map (fault_text executables.reading.form) faults
      ++ totals_text executables.reading.form (length entries) (fault_count faults))
  pub status_is : status ≡ status_of (fault_count faults)
  pub sound : status ≡ 0 → IsSound offer executables pack
  pub faulty : status ≡ 1 → faults ≢ []

-- the same, or it stopped, and something was printed or nothing
abbrev pub ChecksIndexed : Offer → Executables → Package → (old new : Option (List ℕ))
    → Result ℕ Failure → Type 0
ChecksIndexed offer executables pack old new (Ok status) =
    Checked offer executables pack old new status
ChecksIndexed offer executables pack old new (Err failure) =
    IsOfChecking offer executables.paths failure × Grows old new

-- a package without index is refused
abbrev pub ChecksPackage : Offer → Executables → Package → (old new : Option (List ℕ))
    → Result ℕ Failure → (is_refused : Bool) → Type 0
ChecksPackage offer executables pack old new result true =
    (result ≡ Err failures.NoIndex) × Keeps old new
ChecksPackage offer executables pack old new result false =
    ChecksIndexed offer executables pack old new result

-- the same for what bytes are: where they are no package, they are refused
abbrev pub ChecksBytes : Offer → Executables → Result Package PackageError
    → (old new : Option (List ℕ)) → Result ℕ Failure → Type 0
ChecksBytes offer executables (Err cause) old new result =
    (result ≡ Err failures.Malformed) × Keeps old new
ChecksBytes offer executables (Ok pack) old new result =
    ChecksPackage offer executables pack old new result (has_no_index pack)

-- `check`: the file at the path was read and checked; or it can't be read, and nothing was printed
unfoldable pub Checks : Offer → (path : List ℕ) → Executables → (old new : Option (List ℕ))
    → Result ℕ Failure → Type 0
Checks offer path executables old new result =
    ((bytes : List ℕ) × offer path (Ok bytes)
    × ChecksBytes offer executables (package_of bytes) old new result)
    ⊎ (RefusesFile offer path result × Keeps old new)
