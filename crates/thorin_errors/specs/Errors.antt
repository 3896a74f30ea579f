-- The errors of packaging as definitions speak of them: fixed names and sections' names are their
-- bytes.
use Rattle.std.specs.Prelude.{ℕ, List, string_bytes}
use Rattle.std.specs.declared.io.Error.{Error as IoError}
use Rattle.dwp_elf_read.specs.declared.error.ReadError.{ReadError as ElfReadError}
use Rattle.dwp_elf_read.specs.declared.error.WriteError.{WriteError as ElfWriteError}
use Rattle.dwp_bytes.specs.declared.error.ReadError.{ReadError as DwarfReadError}
use Rattle.dwp_bytes.specs.declared.error.WriteError.{WriteError as DwarfWriteError}
use Rattle.thorin_errors.specs.declared.error.Error.{Error}
use Rattle.thorin_errors.specs.declared.error.Error.TheVariants as error

-- one for each variant of `Error`
pub data ErrorValue : Type 0 where
  ReadInput : (cause : IoError) → ErrorValue
  ParseFileKind : (cause : ElfReadError) → ErrorValue
  ParseObjectFile : (cause : ElfReadError) → ErrorValue
  InvalidInputKind : ErrorValue
  DecompressData : (cause : ElfReadError) → ErrorValue
  NamelessSection : (cause : ElfReadError) (place : ℕ) → ErrorValue
  RelocationWithInvalidSymbol : (section : List ℕ) (place : ℕ) → ErrorValue
  MultipleRelocations : (section : List ℕ) (place : ℕ) → ErrorValue
  UnsupportedRelocation : (section : List ℕ) (place : ℕ) → ErrorValue
  MissingDwoName : (unit : ℕ) → ErrorValue
  NoCompilationUnits : ErrorValue
  NoDie : ErrorValue
  TopLevelDieNotUnit : ErrorValue
  MissingRequiredSection : (section : List ℕ) → ErrorValue
  ParseUnitAbbreviations : (cause : DwarfReadError) → ErrorValue
  ParseUnitHeader : (cause : DwarfReadError) → ErrorValue
  ParseUnit : (cause : DwarfReadError) → ErrorValue
  IncompatibleIndexVersion : (section : List ℕ) (expected found : ℕ) → ErrorValue
  OffsetAtIndex : (cause : DwarfReadError) (index : ℕ) → ErrorValue
  StrAtOffset : (cause : DwarfReadError) (offset : ℕ) → ErrorValue
  ParseIndex : (cause : DwarfReadError) (section : List ℕ) → ErrorValue
  UnitNotInIndex : (unit : ℕ) → ErrorValue
  RowNotInIndex : (cause : DwarfReadError) (row : ℕ) → ErrorValue
  SectionNotInRow : ErrorValue
  EmptyUnit : (unit : ℕ) → ErrorValue
  MultipleDebugInfoSection : ErrorValue
  MultipleDebugTypesSection : ErrorValue
  NotSplitUnit : ErrorValue
  DuplicateUnit : (unit : ℕ) → ErrorValue
  MissingReferencedUnit : (unit : ℕ) → ErrorValue
  NoOutputObjectCreated : ErrorValue
  MixedInputEncodings : ErrorValue
  Io : (cause : IoError) → ErrorValue
  ObjectRead : (cause : ElfReadError) → ErrorValue
  ObjectWrite : (cause : ElfWriteError) → ErrorValue
  GimliRead : (cause : DwarfReadError) → ErrorValue
  GimliWrite : (cause : DwarfWriteError) → ErrorValue
  Memory : ErrorValue
  NumberTooLarge : (what : List ℕ) (value : ℕ) → ErrorValue
  BadContribution : (section : List ℕ) (unit : ℕ) → ErrorValue
  SectionOutsideFormat : (section : List ℕ) → ErrorValue
  RepeatedSection : (section : List ℕ) → ErrorValue
  BadStringOffsets : (place : ℕ) → ErrorValue
  OverlappingStringOffsets : (place : ℕ) → ErrorValue

-- what a value of `Error` says
abbrev pub error_of : Error → ErrorValue
error_of (error.ReadInput cause) = ReadInput cause
error_of (error.ParseFileKind cause) = ParseFileKind cause
error_of (error.ParseObjectFile cause) = ParseObjectFile cause
error_of error.InvalidInputKind = InvalidInputKind
error_of (error.DecompressData cause) = DecompressData cause
error_of (error.NamelessSection cause place) = NamelessSection cause place
error_of (error.RelocationWithInvalidSymbol section place) =
    RelocationWithInvalidSymbol (string_bytes section) place
error_of (error.MultipleRelocations section place) =
    MultipleRelocations (string_bytes section) place
error_of (error.UnsupportedRelocation section place) =
    UnsupportedRelocation (string_bytes section) place
error_of (error.MissingDwoName unit) = MissingDwoName unit
error_of error.NoCompilationUnits = NoCompilationUnits
error_of error.NoDie = NoDie
error_of error.TopLevelDieNotUnit = TopLevelDieNotUnit
error_of (error.MissingRequiredSection section) = MissingRequiredSection section.now
error_of (error.ParseUnitAbbreviations cause) = ParseUnitAbbreviations cause
error_of (error.ParseUnitHeader cause) = ParseUnitHeader cause
error_of (error.ParseUnit cause) = ParseUnit cause
error_of (error.IncompatibleIndexVersion section expected found) =
    IncompatibleIndexVersion section.now expected found
error_of (error.OffsetAtIndex cause index) = OffsetAtIndex cause index
error_of (error.StrAtOffset cause offset) = StrAtOffset cause offset
error_of (error.ParseIndex cause section) = ParseIndex cause section.now
error_of (error.UnitNotInIndex unit) = UnitNotInIndex unit
error_of (error.RowNotInIndex cause row) = RowNotInIndex cause row
error_of error.SectionNotInRow = SectionNotInRow
error_of (error.EmptyUnit unit) = EmptyUnit unit
error_of error.MultipleDebugInfoSection = MultipleDebugInfoSection
error_of error.MultipleDebugTypesSection = MultipleDebugTypesSection
error_of error.NotSplitUnit = NotSplitUnit
error_of (error.DuplicateUnit unit) = DuplicateUnit unit
error_of (error.MissingReferencedUnit unit) = MissingReferencedUnit unit
error_of error.NoOutputObjectCreated = NoOutputObjectCreated
error_of error.MixedInputEncodings = MixedInputEncodings
error_of (error.Io cause) = Io cause
error_of (error.ObjectRead cause) = ObjectRead cause
error_of (error.ObjectWrite cause) = ObjectWrite cause
error_of (error.GimliRead cause) = GimliRead cause
error_of (error.GimliWrite cause) = GimliWrite cause
error_of error.Memory = Memory
error_of (error.NumberTooLarge what value) = NumberTooLarge what.now value
error_of (error.BadContribution section unit) = BadContribution section.now unit
error_of (error.SectionOutsideFormat section) = SectionOutsideFormat section.now
error_of (error.RepeatedSection section) = RepeatedSection section.now
error_of (error.BadStringOffsets place) = BadStringOffsets place
error_of (error.OverlappingStringOffsets place) = OverlappingStringOffsets place
