-- Files whose sections are contents as they stand (DWARF 5, 7.3.5).
use Rattle.std.specs.Prelude.{◌≡◌, ◌≢◌, ◌⊎◌, ℕ, ◌<◌, false, List, [], ◌∷◌, length, map, Option}
use Rattle.std.specs.Prelude.{Some, Ok, if◌then◌else◌}
use Rattle.dwp_base.specs.Sections.{name_of, same_kind, all_kinds}
use Rattle.dwp_base.specs.declared.endian.Endianness.{Endianness}
use Rattle.dwp_base.specs.declared.section.SectionKind.{SectionKind}
use Rattle.dwp_base.specs.declared.section.SectionKind.TheVariants as kinds
use Rattle.dwp_elf_read.specs.Elf.{Elf, SectionMeaning, SHT_NOBITS, elf_of, has_compressed_flag}
use Rattle.dwp_index.specs.Contents.{Sections, is_of_kind}
use Rattle.dwp_index.specs.Index.{Index}
use Rattle.dwp_index.specs.Package.{Package, index_in_section}

-- a section has a kind's name and these bytes, which aren't compressed
pub record Holds (section : SectionMeaning) (kind : SectionKind) (bytes : List ℕ) : Type 0 where
  pub name_is : section.name ≡ Some (name_of kind)
  pub size_is : section.size ≡ length bytes
  pub content_is : section.content ≡ Some bytes
  pub some : 0 < length bytes
  pub has_bytes : section.kind ≢ SHT_NOBITS
  pub stored : has_compressed_flag section ≡ false

-- the first of these sections that is of a kind holds these bytes; there are none where no section
-- is
abbrev pub HasContent : List SectionMeaning → SectionKind → List ℕ → Type 0
HasContent [] kind bytes = bytes ≡ []
HasContent (s ∷ ss) kind bytes =
    Holds s kind bytes ⊎ ((is_of_kind kind s ≡ false) × HasContent ss kind bytes)

-- a section of no kind
abbrev pub IsOther : SectionMeaning → Type 0
IsOther section = (kind : SectionKind) → is_of_kind kind section ≡ false

-- the sections hold these contents, each under its kind's name, in order; the others between them
-- are of no kind
abbrev pub HoldsInOrder : List SectionMeaning → List (SectionKind × List ℕ) → Type 0
HoldsInOrder [] contents = contents ≡ []
HoldsInOrder (s ∷ ss) [] = IsOther s × HoldsInOrder ss []
HoldsInOrder (s ∷ ss) (c ∷ cs) =
    (IsOther s × HoldsInOrder ss (c ∷ cs)) ⊎ (Holds s c.0 c.1 × HoldsInOrder ss cs)

-- the first content of a kind, no bytes where there is none
abbrev pub held_of : SectionKind → List (SectionKind × List ℕ) → List ℕ
held_of kind [] = []
held_of kind (c ∷ cs) = if same_kind c.0 kind then c.1 else held_of kind cs

-- these bytes of each kind
abbrev pub sections_of : (SectionKind → List ℕ) → Sections
sections_of bytes = map bytes all_kinds

-- a file holds these bytes of each kind, and these indexes stand in them
pub record HoldsPackage (bytes : List ℕ) (file : Elf) (held : SectionKind → List ℕ)
    (compilations types : Option Index) : Type 0 where
  pub file_is : elf_of bytes ≡ Ok file
  pub contents : (kind : SectionKind) → HasContent file.sections kind (held kind)
  pub compilations_are : index_in_section file.order (held kinds.CuIndex) ≡ Ok compilations
  pub types_are : index_in_section file.order (held kinds.TuIndex) ≡ Ok types

-- the package of these bytes of each kind, and of these indexes
abbrev pub package_with : Endianness → (SectionKind → List ℕ) → (compilations types : Option Index)
    → Package
package_with order held compilations types = record {
  order = order;
  contents = sections_of held;
  compilations = compilations;
  types = types;
}
