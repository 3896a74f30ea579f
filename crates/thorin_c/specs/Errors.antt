-- How the exports name an error of packing.
use Rattle.std.specs.Prelude.{◌≡◌, ◌<◌, ℕ, take, slice_index, IfSome}
use Rattle.std.specs.Fmt.Cut.{IsTextOrCut}
use Rattle.thorin_errors.specs.Errors.{ErrorValue, ReadInput, ParseFileKind, ParseObjectFile}
use Rattle.thorin_errors.specs.Errors.{InvalidInputKind, DecompressData, NamelessSection}
use Rattle.thorin_errors.specs.Errors.{RelocationWithInvalidSymbol, MultipleRelocations}
use Rattle.thorin_errors.specs.Errors.{UnsupportedRelocation, MissingDwoName, NoCompilationUnits}
use Rattle.thorin_errors.specs.Errors.{NoDie, TopLevelDieNotUnit, MissingRequiredSection}
use Rattle.thorin_errors.specs.Errors.{ParseUnitAbbreviations, ParseUnitHeader, ParseUnit}
use Rattle.thorin_errors.specs.Errors.{IncompatibleIndexVersion, OffsetAtIndex, StrAtOffset}
use Rattle.thorin_errors.specs.Errors.{ParseIndex, UnitNotInIndex, RowNotInIndex, SectionNotInRow}
use Rattle.thorin_errors.specs.Errors.{EmptyUnit, MultipleDebugInfoSection}
use Rattle.thorin_errors.specs.Errors.{MultipleDebugTypesSection, NotSplitUnit, DuplicateUnit}
use Rattle.thorin_errors.specs.Errors.{MissingReferencedUnit, NoOutputObjectCreated}
use Rattle.thorin_errors.specs.Errors.{MixedInputEncodings, Io, ObjectRead, ObjectWrite, GimliRead}
use Rattle.thorin_errors.specs.Errors.{GimliWrite, Memory, NumberTooLarge, BadContribution}
use Rattle.thorin_errors.specs.Errors.{SectionOutsideFormat, RepeatedSection, BadStringOffsets}
use Rattle.thorin_errors.specs.Errors.{OverlappingStringOffsets}
use Rattle.thorin_errors.specs.Text.{error_text}
use Rattle.thorin_c.specs.declared.types.ThorinReport.{ThorinReport}

-- from 1 on
abbrev pub number_of : ErrorValue → ℕ
number_of (ReadInput _) = 1
number_of (ParseFileKind _) = 2
number_of (ParseObjectFile _) = 3
number_of InvalidInputKind = 4
number_of (DecompressData _) = 5
number_of (NamelessSection _ _) = 6
number_of (RelocationWithInvalidSymbol _ _) = 7
number_of (MultipleRelocations _ _) = 8
number_of (UnsupportedRelocation _ _) = 9
number_of (MissingDwoName _) = 10
number_of NoCompilationUnits = 11
number_of NoDie = 12
number_of TopLevelDieNotUnit = 13
number_of (MissingRequiredSection _) = 14
number_of (ParseUnitAbbreviations _) = 15
number_of (ParseUnitHeader _) = 16
number_of (ParseUnit _) = 17
number_of (IncompatibleIndexVersion _ _ _) = 18
number_of (OffsetAtIndex _ _) = 19
number_of (StrAtOffset _ _) = 20
number_of (ParseIndex _ _) = 21
number_of (UnitNotInIndex _) = 22
number_of (RowNotInIndex _ _) = 23
number_of SectionNotInRow = 24
number_of (EmptyUnit _) = 25
number_of MultipleDebugInfoSection = 26
number_of MultipleDebugTypesSection = 27
number_of NotSplitUnit = 28
number_of (DuplicateUnit _) = 29
number_of (MissingReferencedUnit _) = 30
number_of NoOutputObjectCreated = 31
number_of MixedInputEncodings = 32
number_of (Io _) = 33
number_of (ObjectRead _) = 34
number_of (ObjectWrite _) = 35
number_of (GimliRead _) = 36
number_of (GimliWrite _) = 37
number_of Memory = 38
number_of (NumberTooLarge _ _) = 39
number_of (BadContribution _ _) = 40
number_of (SectionOutsideFormat _) = 41
number_of (RepeatedSection _) = 42
number_of (BadStringOffsets _) = 43
number_of (OverlappingStringOffsets _) = 44

-- a report has the error's number, and its text, cut to 255 bytes, with a zero byte behind it
pub record Tells (error : ErrorValue) (report : ThorinReport) : Type 0 where
  pub number : report.fault ≡ number_of error
  pub text : IfSome (error_text error) (λ text.
      IsTextOrCut 255 text (take report.text_size report.text))
  pub within : report.text_size < 256
  pub ends : slice_index report.text report.text_size ≡ 0
