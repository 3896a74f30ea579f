-- What inputs stand for where archives are opened.
use Rattle.std.specs.Prelude.{◌≡◌, ℕ, List, [], ◌∷◌, Bool, true, false, ◌||◌, map, filter}
use Rattle.std.specs.Prelude.{codes, find, is_some, nat_eq, Result, Ok, Err, ◌⊎◌}
use Rattle.std.specs.Borrow.{Bor}
use Rattle.std.specs.List.{starts_with}
use Rattle.std.specs.Path.{path_bytes}
use Rattle.dwp_elf_read.specs.Elf.{Elf, elf_of, is_named}
use Rattle.dwp_elf_read.specs.declared.error.ReadError.{ReadError}
use Rattle.dwp_archive.specs.Entries.{Member}
use Rattle.dwp_archive.specs.Members.{archive_magic, members_of, thin_magic}
use Rattle.thorin.specs.declared.packing.Input.{Input}
use Rattle.thorin.specs.declared.packing.Input.TheVariants as inputs
use Rattle.thorin_commands.specs.Taken.{IsTakenFor, Manner, Offer}

-- how an ELF file begins (ELF gABI, "ELF Identification")
abbrev pub elf_magic : List ℕ
elf_magic = 127 ∷ codes "ELF"

-- an ELF file has a section of split units, under either of its names; or it can't be read, so that
-- nobody knows
abbrev pub may_have_split_units : List ℕ → Result Elf ReadError → Bool
may_have_split_units bytes (Ok file) =
    is_some (find (is_named (codes ".debug_info.dwo")) file.sections)
    || is_some (find (is_named (codes ".zdebug_info.dwo")) file.sections)
may_have_split_units bytes (Err e) = starts_with nat_eq bytes elf_magic

unfoldable pub is_split : List ℕ → Bool
is_split bytes = may_have_split_units bytes (elf_of bytes)

-- the contents of an archive's members that have split units, in order
abbrev pub split_contents : List Member → List (List ℕ)
split_contents members = filter is_split (map (λ (member : Member). member.content) members)

-- inputs are what is taken for these contents, in order
abbrev pub AreTakenFor : Manner → List (List ℕ) → List Input → Type 0
AreTakenFor manner [] [] = Unit {0}
AreTakenFor manner (content ∷ contents) (inputs.Bytes bytes ∷ list) =
    IsTakenFor manner content bytes.now × AreTakenFor manner contents list
AreTakenFor manner contents list = ⊥

-- bytes begin as those of an archive do, plain or thin
unfoldable pub is_archive : List ℕ → Bool
is_archive bytes =
    starts_with nat_eq bytes archive_magic || starts_with nat_eq bytes thin_magic

-- the file at a path is no archive: its bytes are the input
pub record IsNoArchive (offer : Offer) (path : List ℕ) (list : List Input) : Type 0 where
  pub file : Bor (List ℕ)
  pub offered : offer path (Ok file.now)
  pub begins : is_archive file.now ≡ false
  pub list_is : list ≡ inputs.Bytes file ∷ []

-- the file at a path is an archive, and inputs are its members that have split units
pub record IsArchive (offer : Offer) (manner : Manner) (path : List ℕ) (list : List Input)
    : Type 0 where
  pub file : List ℕ
  pub offered : offer path (Ok file)
  pub members : List Member
  pub are : members_of file ≡ Ok members
  pub taken : AreTakenFor manner (split_contents members) list

-- what an input stands for: itself; where archives are opened, the file at its path, or where that
-- is an archive, its members
abbrev pub StandsFor : (opens : Bool) → Manner → Offer → Input → List Input → Type 0
StandsFor true manner offer (inputs.Object path) list =
    IsNoArchive offer (path_bytes path) list ⊎ IsArchive offer manner (path_bytes path) list
StandsFor opens manner offer input list = list ≡ input ∷ []
