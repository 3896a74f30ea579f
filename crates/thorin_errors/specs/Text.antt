-- The texts of errors.
use Rattle.std.specs.Prelude.{ℕ, ◌-◌, Bool, true, false, List, ◌++◌, Option, Some, None, codes}
use Rattle.std.specs.Prelude.{length, replicate}
use Rattle.std.specs.Fmt.{digits, decimal}
use Rattle.thorin_errors.specs.Errors.{ErrorValue, ReadInput, ParseFileKind, ParseObjectFile}
use Rattle.thorin_errors.specs.Errors.{InvalidInputKind, DecompressData, NamelessSection}
use Rattle.thorin_errors.specs.Errors.{RelocationWithInvalidSymbol, MultipleRelocations}
use Rattle.thorin_errors.specs.Errors.{UnsupportedRelocation, MissingDwoName, NoCompilationUnits}
use Rattle.thorin_errors.specs.Errors.{NoDie, TopLevelDieNotUnit, MissingRequiredSection}
use Rattle.thorin_errors.specs.Errors.{ParseUnitAbbreviations, ParseUnitHeader, ParseUnit}
use Rattle.thorin_errors.specs.Errors.{IncompatibleIndexVersion, OffsetAtIndex, StrAtOffset}
use Rattle.thorin_errors.specs.Errors.{ParseIndex, UnitNotInIndex, RowNotInIndex, SectionNotInRow}
use Rattle.thorin_errors.specs.Errors.{EmptyUnit, MultipleDebugInfoSection}
use Rattle.thorin_errors.specs.Errors.{MultipleDebugTypesSection, NotSplitUnit, DuplicateUnit}
use Rattle.thorin_errors.specs.Errors.{MissingReferencedUnit, NoOutputObjectCreated}
use Rattle.thorin_errors.specs.Errors.{MixedInputEncodings, Io, ObjectRead, ObjectWrite, GimliRead}
use Rattle.thorin_errors.specs.Errors.{GimliWrite, Memory, NumberTooLarge, BadContribution}
use Rattle.thorin_errors.specs.Errors.{SectionOutsideFormat, RepeatedSection, BadStringOffsets}
use Rattle.thorin_errors.specs.Errors.{OverlappingStringOffsets}

-- at least eight lower-case hexadecimal digits, with zeros in front
unfoldable pub hex8 : ℕ → List ℕ
hex8 n = let digits_of_n = digits 16 false n in replicate (8 - length digits_of_n) 48 ++ digits_of_n

-- the texts of errors of sections and of what a package is made of; of the errors that only pass on
-- a cause it is the cause's text, which isn't stated here
abbrev pub section_text : ErrorValue → Option (List ℕ)
section_text (MissingRequiredSection section) =
    Some (codes "Input object missing required section `" ++ (section ++ codes "`"))
section_text MultipleDebugInfoSection = Some (codes "Multiple `.debug_info.dwo` sections")
section_text MultipleDebugTypesSection =
    Some (codes "Multiple `.debug_types.dwo` sections in a package")
section_text NoOutputObjectCreated = Some (codes "No output object was created from inputs")
section_text MixedInputEncodings = Some (codes "Input objects haved mixed encodings")
section_text (Io _) = None
section_text (ObjectRead _) = None
section_text (ObjectWrite _) = None
section_text (GimliRead _) = None
section_text (GimliWrite _) = None
section_text Memory = Some (codes "Out of memory")
section_text (NumberTooLarge what value) =
    Some (codes "Number too large: " ++ (what ++ (codes " is " ++ decimal value)))
section_text (BadContribution section unit) =
    Some (codes "Bad contribution of unit 0x" ++ (hex8 unit ++ (codes " to section " ++ section)))
section_text (SectionOutsideFormat section) =
    Some (codes "Section " ++ (section ++ codes " is not part of the package format"))
section_text (RepeatedSection section) = Some (codes "Repeated section " ++ section)
section_text _ = None

-- those of indexes and string offsets, and of the former
abbrev pub index_text : ErrorValue → Option (List ℕ)
index_text (IncompatibleIndexVersion section expected found) =
    Some (codes "Incompatible `" ++ (section ++ (codes "` index version: found version "
    ++ (decimal found ++ (codes ", expected version " ++ decimal expected)))))
index_text (OffsetAtIndex _ index) = Some (codes "Read offset at index "
    ++ (decimal index ++ codes " of `.debug_str_offsets.dwo` section"))
index_text (StrAtOffset _ offset) =
    Some (codes "Read string at offset 0x" ++ (hex8 offset ++ codes " of `.debug_str.dwo` section"))
index_text (ParseIndex _ section) =
    Some (codes "Failed to parse `" ++ (section ++ codes "` index section"))
index_text (UnitNotInIndex unit) =
    Some (codes "Unit 0x" ++ (hex8 unit ++ codes " from input package is not in its index"))
index_text (RowNotInIndex _ row) = Some (codes "Row "
    ++ (decimal row ++ codes " found in index's hash table not present in index"))
index_text SectionNotInRow = Some (codes "Section not found in unit's row in index")
index_text (BadStringOffsets place) = Some (codes "Bad string offsets at offset 0x" ++ hex8 place)
index_text (OverlappingStringOffsets place) =
    Some (codes "Overlapping string offsets at offset 0x" ++ hex8 place)
index_text error = section_text error

-- those of units, and of the former
abbrev pub unit_text : ErrorValue → Option (List ℕ)
unit_text (MissingDwoName unit) =
    Some (codes "Missing path attribute to DWARF object (0x" ++ (hex8 unit ++ codes ")"))
unit_text NoCompilationUnits = Some (codes "Input object has no compilation units")
unit_text NoDie = Some (codes "No top-level debugging information entry in compilation/type unit")
unit_text TopLevelDieNotUnit =
    Some (codes "Top-level debugging information entry is not a compilation/type unit")
unit_text (ParseUnitAbbreviations _) = Some (codes "Failed to parse unit abbreviations")
unit_text (ParseUnitHeader _) = Some (codes "Failed to parse unit header")
unit_text (ParseUnit _) = Some (codes "Failed to parse unit")
unit_text (EmptyUnit unit) =
    Some (codes "Unit 0x" ++ (hex8 unit ++ codes " in input DWARF object with no data"))
unit_text NotSplitUnit = Some (codes "Regular compilation unit in object (missing dwo identifier)")
unit_text (DuplicateUnit unit) =
    Some (codes "Duplicate split compilation unit (0x" ++ (hex8 unit ++ codes ")"))
unit_text (MissingReferencedUnit unit) =
    Some (codes "Unit 0x" ++ (hex8 unit ++ codes " referenced by executable was not found"))
unit_text error = index_text error

-- the text of an error: those of inputs and relocations, and the former
abbrev pub error_text : ErrorValue → Option (List ℕ)
error_text (ReadInput _) = Some (codes "Failed to read input file")
error_text (ParseFileKind _) = Some (codes "Failed to parse input file kind")
error_text (ParseObjectFile _) = Some (codes "Failed to parse input object file")
error_text InvalidInputKind = Some (codes "Input is not an archive or elf object")
error_text (DecompressData _) = Some (codes "Failed to decompress compressed section")
error_text (NamelessSection _ place) =
    Some (codes "Section without name at offset 0x" ++ hex8 place)
error_text (RelocationWithInvalidSymbol section place) =
    Some (codes "Relocation with invalid symbol for section `"
    ++ (section ++ (codes "` at offset 0x" ++ hex8 place)))
error_text (MultipleRelocations section place) = Some (codes "Multiple relocations for section `"
    ++ (section ++ (codes "` at offset 0x" ++ hex8 place)))
error_text (UnsupportedRelocation section place) = Some (codes "Unsupported relocation for section "
    ++ (section ++ (codes " at offset 0x" ++ hex8 place)))
error_text error = unit_text error

-- an error that only passes on a cause
abbrev pub is_passed_on : ErrorValue → Bool
is_passed_on (Io _) = true
is_passed_on (ObjectRead _) = true
is_passed_on (ObjectWrite _) = true
is_passed_on (GimliRead _) = true
is_passed_on (GimliWrite _) = true
is_passed_on _ = false
