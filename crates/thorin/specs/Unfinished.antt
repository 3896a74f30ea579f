-- Why inputs that were all taken aren't finished or written, want of memory aside (DWARF 5, 7.3.5.3
-- and 7.5.1; ELF gABI, "Data Representation").
use Rattle.std.specs.Prelude.{◌≡◌, ◌≢◌, ◌≤◌, ◌^◌, ◌⊎◌, ℕ, List, [], length, codes, Some, Ok, find}
use Rattle.dwp_base.specs.declared.section.SectionKind.{SectionKind}
use Rattle.dwp_bytes.specs.declared.encoding.Encoding.{Encoding}
use Rattle.dwp_elf.specs.Contents.{content_of}
use Rattle.dwp_elf_read.specs.declared.error.WriteError.TheVariants as writer
use Rattle.dwp_table.specs.Objects.{identifier_of}
use Rattle.dwp_table.specs.declared.object.DwarfObject.{DwarfObject}
use Rattle.thorin_errors.specs.Errors.{ErrorValue, MissingReferencedUnit, MixedInputEncodings}
use Rattle.thorin_errors.specs.Errors.{NoOutputObjectCreated, NumberTooLarge, ObjectWrite}
use Rattle.thorin_join.specs.Builder.{State, is_missing, names_in, start}
use Rattle.thorin_join.specs.StandApart.{contents_begun}
use Rattle.thorin_again.specs.Again.{input_encoding}
use Rattle.thorin_again.specs.InFormat.{IsOneOf}
use Rattle.thorin_again.specs.OwnRefusals.{IsForeseen}
use Rattle.thorin.specs.Groups.{taken_each}
use Rattle.thorin.specs.Run.{IsTooLarge}

-- a unit that an executable refers to isn't there, the first of them
abbrev pub LacksTarget : State → ErrorValue → Type 0
LacksTarget state error = (name : DwarfObject)
    × (find (is_missing (names_in state.begun)) state.targets ≡ Some name)
    × (error ≡ MissingReferencedUnit (identifier_of name))

-- there is no input
abbrev pub LacksInput : List (List ℕ) → ErrorValue → Type 0
LacksInput inputs error = (inputs ≡ []) × (error ≡ NoOutputObjectCreated)

-- two of some inputs have different encodings
pub record HaveMixedEncodings (inputs : List (List ℕ)) : Type 0 where
  pub one : List ℕ
  pub one_among : IsOneOf inputs one
  pub first : Encoding
  pub one_has : input_encoding one ≡ Ok first
  pub other : List ℕ
  pub other_among : IsOneOf inputs other
  pub second : Encoding
  pub other_has : input_encoding other ≡ Ok second
  pub differ : first ≢ second

-- inputs of several encodings have no index that names them all
abbrev pub AreMixed : List (List ℕ) → ErrorValue → Type 0
AreMixed inputs error = HaveMixedEncodings inputs × (error ≡ MixedInputEncodings)

-- a section of a package has bytes past the 32 bits of an index's numbers
abbrev pub HasLongSection : State → Type 0
HasLongSection state = (kind : SectionKind)
    × (2 ^ 32 ≤ length (content_of kind (contents_begun state.begun)))

-- a number that an index has no room for
abbrev pub IsIndexNumber : ErrorValue → Type 0
IsIndexNumber error = (value : ℕ) × ((error ≡ NumberTooLarge (codes "unit count") value)
    ⊎ ((error ≡ NumberTooLarge (codes "contribution offset") value)
    ⊎ (error ≡ NumberTooLarge (codes "contribution size") value)))

-- why the package of these inputs isn't finished
abbrev pub IsUnfinished : List (List ℕ) → State → ErrorValue → Type 0
IsUnfinished inputs state error = LacksTarget state error ⊎ (LacksInput inputs error
    ⊎ (AreMixed inputs error ⊎ (HasLongSection state × IsIndexNumber error)))

-- what inputs join is too long: a section for its index, or the file for its class
pub record AreTooLong (inputs : List (List ℕ)) (error : ErrorValue) : Type 0 where
  pub state : State
  pub taken : taken_each inputs start ≡ Ok state
  pub long : (HasLongSection state × IsIndexNumber error)
      ⊎ (IsTooLarge state × (error ≡ ObjectWrite writer.NumberTooLarge))

-- what the join of packages that can be packed again can end with: a compilation unit that is there
-- twice or the offset of a string past 32 bits, no package, two encodings, or a section or a file
-- that is too long
abbrev pub IsGroupsError : (packages : List (List ℕ)) → ErrorValue → Type 0
IsGroupsError packages error = IsForeseen error ⊎ (LacksInput packages error
    ⊎ (AreMixed packages error ⊎ AreTooLong packages error))
