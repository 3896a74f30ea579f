-- Which sections of an ELF file are compressed: those with SHF_COMPRESSED (ELF gABI, "Section
-- Attribute Flags"), and by GNU's older convention those whose names begin with `.zdebug_` (GNU
-- binutils, `--compress-debug-sections=zlib-gnu`).
use Rattle.std.specs.Prelude.{◌≡◌, ℕ, List, Bool, false, true, Result, Ok, Err, ◌&&◌, ◌||◌, ◌==◌}
use Rattle.std.specs.Prelude.{not, codes, nat_eq, Option, Some, None}
use Rattle.std.specs.List.{starts_with, list_any}
use Rattle.dwp_elf_read.specs.Elf.{Elf, SectionMeaning, SHT_NOBITS, has_compressed_flag}
use Rattle.dwp_elf_read.specs.declared.error.ReadError.{ReadError}
use Rattle.dwp_decompress.specs.declared.asked.Asked.{Asked}
use Rattle.dwp_decompress.specs.Asked.{is_asked}

-- an older name
unfoldable pub is_older : List ℕ → Bool
is_older name = starts_with nat_eq name (codes ".zdebug_")

-- the name can be read, and is an older one
abbrev pub name_is_older : Option (List ℕ) → Bool
name_is_older None = false
name_is_older (Some name) = is_older name

-- there are bytes to compress; number 0 is that of no section (ELF gABI, "Special Section Indexes")
unfoldable pub holds_bytes : SectionMeaning → Bool
holds_bytes section =
    not (section.number == 0) && not (section.size == 0 || section.kind == SHT_NOBITS)

-- the content is asked for, and compressed
unfoldable pub is_compressed : Asked → SectionMeaning → Bool
is_compressed asked section =
    holds_bytes section && (is_asked asked section
    && (has_compressed_flag section || name_is_older section.name))

-- some section's is
abbrev pub has_compressed : Asked → List SectionMeaning → Bool
has_compressed asked sections = list_any (is_compressed asked) sections

-- a file that can be read has one
abbrev pub HasCompressed : Asked → Result Elf ReadError → Type 0
HasCompressed asked (Ok file) = has_compressed asked file.sections ≡ true
HasCompressed asked (Err e) = ⊥
