-- A list of inputs as the join of what they mean: the first accepted unit of a name stays. And a
-- package that means it.
use Rattle.std.specs.Prelude.{[], Bool, false, filter, IsPermutation, length, List, map}
use Rattle.std.specs.Prelude.{MatchOption, None, not, Ok, Option, slice_get, Some, suc, true, zero}
use Rattle.std.specs.Prelude.{ℕ, ◌++◌, ◌+◌, ◌∷◌, ◌≡◌, ◌≤◌}
use Rattle.std.specs.Map.{lookup}
use Rattle.dwp_base.specs.declared.section.SectionKind.{SectionKind}
use Rattle.dwp_base.specs.declared.section.SectionKind.TheVariants.{Str, StrOffsets}
use Rattle.dwp_bytes.specs.StringOffsets.{string_in}
use Rattle.dwp_elf.specs.Contents.{KindsDiffer}
use Rattle.dwp_elf.specs.FileText.{file_text, Object as File}
use Rattle.dwp_elf.specs.Written.{written_elf}
use Rattle.dwp_elf_read.specs.Elf.{elf_of}
use Rattle.dwp_index.specs.Package as index
use Rattle.dwp_index.specs.Package.{found_counted, Package, package_of, row_bytes}
use Rattle.dwp_index.specs.Entries.{entries_from}
use Rattle.dwp_index.specs.Naming.{entries_of}
use Rattle.dwp_table.specs.Objects.{identifier_of}
use Rattle.dwp_table.specs.declared.object.DwarfObject.{DwarfObject}
use Rattle.dwp_table.specs.declared.object.DwarfObject.TheVariants.{Compilation, TypeUnit}
use Rattle.thorin_join.specs.Meaning.{can_join, input_meaning, joining, keys, Meaning, Members}
use Rattle.thorin_input.specs.Names.{is_compilation, same_name}
use Rattle.thorin_input.specs.Format.{is_copied}
use Rattle.dwp_index.specs.Contents.{content as section_content}

-- an input joins its units to those before: a type unit whose name is there is passed over, no
-- compilation unit is, and all that belongs to each unit that is added is there
pub record Joins (bytes : List ℕ) (before now : Members) : Type 0 where
  pub units : List (DwarfObject × Option Meaning)
  pub meaning : input_meaning bytes ≡ Ok units
  pub defined : can_join (keys before) units ≡ true
  pub added : Members
  pub joined : joining (keys before) units
      ≡ map {B = DwarfObject × Option Meaning} (λ u. (u.0, Some u.1)) added
  pub is : now ≡ before ++ added

-- each of some inputs, in order
abbrev pub JoinAll : List (List ℕ) → (before now : Members) → Type 0
JoinAll [] before now = now ≡ before
JoinAll (bytes ∷ rest) before now =
    (middle : Members) × Joins bytes before middle × JoinAll rest middle now

-- a unit of a package file is a unit with all that belongs to it; its strings too, where it has its
-- input's encoding
pub record IsUnit (found : index.FoundUnit) (unit : Meaning) : Type 0 where
  pub bytes : found.bytes ≡ unit.bytes
  pub content : (kind : SectionKind) (copied : is_copied kind ≡ true)
      → row_bytes found.contents found.row kind ≡ unit.contributions kind copied
  pub string : found.encoding ≡ unit.encoding → (i : ℕ)
      → string_in found.order found.encoding (section_content found.contents Str)
      (row_bytes found.contents found.row StrOffsets) i ≡ Ok (slice_get unit.strings i)

-- a look-up gave that unit
pub record GivesUnit (pack : Package) (name : DwarfObject) (most : ℕ)
    (unit : Meaning) : Type 0 where
  pub found : index.FoundUnit
  pub count : ℕ
  pub few : count ≤ most
  pub counted : found_counted pack name ≡ Ok (Some found, count)
  pub is : IsUnit found unit

-- a look-up gave none
pub record GivesNone (pack : Package) (name : DwarfObject) (most : ℕ) : Type 0 where
  pub count : ℕ
  pub few : count ≤ most
  pub counted : found_counted pack name ≡ Ok (None, count)

-- names of one kind
abbrev pub same_sort : DwarfObject → DwarfObject → Bool
same_sort (Compilation a) (Compilation b) = true
same_sort (TypeUnit a) (TypeUnit b) = true
same_sort _ _ = false

-- how many slots are looked at at most: one more than there are units of the name's kind, and none
-- where there are none
abbrev pub limit_of : ℕ → ℕ
limit_of zero = zero
limit_of (suc n) = suc n + 1

abbrev pub look_limit : Members → DwarfObject → ℕ
look_limit units name = limit_of (length (filter (λ u. same_sort name u.0) units))

-- the identifiers of compilation units among these, and those of type units
abbrev pub identifiers : Members → List ℕ
identifiers units = map (λ u. identifier_of u.0) (filter (λ u. is_compilation u.0) units)

abbrev pub signatures : Members → List ℕ
signatures units = map (λ u. identifier_of u.0) (filter (λ u. not (is_compilation u.0)) units)

-- the bytes of a file are a package whose used slots name just these units, each once, with the
-- numbers of their rows, and in which looking up any name gives just the unit of that name among
-- these, or none
pub record IsPackageOf (units : Members) (bytes : List ℕ) : Type 0 where
  pub pack : Package
  pub parsed : package_of bytes ≡ Ok pack
  pub named : IsPermutation (entries_of (identifiers units) (signatures units))
      (entries_from pack.compilations pack.types 0 0)
  pub finds : (name : DwarfObject) → MatchOption (lookup (same_name name) units)
      (GivesNone pack name (look_limit units name)) (GivesUnit pack name (look_limit units name))

-- the file of these contents is a package of these units, once it is written and read back as an
-- ELF file, as `write` says
abbrev pub IsPackageOnceWritten : Members → File → Type 0
IsPackageOnceWritten units file = KindsDiffer file.contents
    → elf_of (file_text file) ≡ Ok (written_elf file) → IsPackageOf units (file_text file)
