-- The sections of an executable that say which split objects it was made with (DWARF 5, 7.3.2 and
-- Appendix B; ELF gABI, "Sections").
use Rattle.std.specs.Prelude.{ℕ, List, [], codes, map, Bool, ◌&&◌, ◌||◌, ◌==◌, not, if◌then◌else◌}
use Rattle.std.specs.Prelude.{Option, Some, None, Result, Ok, Err, find}
use Rattle.std.specs.Option.{ok_or, option_or}
use Rattle.dwp_base.specs.Reading.{◌>>=◌}
use Rattle.dwp_base.specs.declared.endian.Endianness.{Endianness}
use Rattle.dwp_elf_read.specs.declared.error.ReadError.TheVariants.{Compressed, SectionRange}
use Rattle.dwp_elf_read.specs.Elf.{Elf, SectionMeaning, elf_of, SHT_NOBITS, has_compressed_flag}
use Rattle.dwp_elf_read.specs.Elf.{is_named}
use Rattle.dwp_elf_read.specs.Relocation.{relocations_of}
use Rattle.dwp_bytes.specs.declared.relocation.Relocation.{Relocation}
use Rattle.dwp_bytes.specs.declared.relocation.RelocationEntry.{RelocationEntry}
use Rattle.dwp_bytes.specs.Input.{Input, section}
use Rattle.dwp_bytes.specs.Relocation.{relocated_input}
use Rattle.dwp_dwarf.specs.Strings.{Strings}
use Rattle.thorin_errors.specs.Errors.{ErrorValue, ParseObjectFile, DecompressData, ObjectRead}
use Rattle.thorin_errors.specs.Answers.{as_error}
use Rattle.thorin_executable.specs.Relocations.{with_relocations}
use Rattle.thorin_executable.specs.declared.loading.DebugSection.{DebugSection}
use Rattle.thorin_executable.specs.declared.loading.DebugSection.TheVariants.{Abbrev, Info, LineStr}
use Rattle.thorin_executable.specs.declared.loading.DebugSection.TheVariants.{Str, StrOffsets}

-- the bytes of a section's name
abbrev pub debug_name_of : DebugSection → List ℕ
debug_name_of Abbrev = codes ".debug_abbrev"
debug_name_of Info = codes ".debug_info"
debug_name_of LineStr = codes ".debug_line_str"
debug_name_of Str = codes ".debug_str"
debug_name_of StrOffsets = codes ".debug_str_offsets"

-- its older name where its content is compressed
abbrev pub compressed_debug_name_of : DebugSection → List ℕ
compressed_debug_name_of Abbrev = codes ".zdebug_abbrev"
compressed_debug_name_of Info = codes ".zdebug_info"
compressed_debug_name_of LineStr = codes ".zdebug_line_str"
compressed_debug_name_of Str = codes ".zdebug_str"
compressed_debug_name_of StrOffsets = codes ".zdebug_str_offsets"

-- a section has no bytes
abbrev pub is_empty : SectionMeaning → Bool
is_empty section = section.size == 0 || section.kind == SHT_NOBITS

-- a section has a name, and bytes
unfoldable pub is_used : List ℕ → SectionMeaning → Bool
is_used name section = not (is_empty section) && is_named name section

-- the section of a kind that is read: the first of its name that has bytes; where there is none,
-- that of its older name
unfoldable pub section_read : DebugSection → List SectionMeaning → Option SectionMeaning
section_read kind sections =
    option_or (find (is_used (debug_name_of kind)) sections)
    (find (is_used (compressed_debug_name_of kind)) sections)

-- a section's content, which may not be compressed
unfoldable pub debug_content : DebugSection → SectionMeaning → Result (List ℕ) ErrorValue
debug_content kind section =
    if has_compressed_flag section || is_named (compressed_debug_name_of kind) section
    then Err (DecompressData Compressed)
    else as_error ObjectRead (ok_or section.content SectionRange)

-- what becomes of the number at a place
abbrev pub entry_of : ℕ × Relocation → RelocationEntry
entry_of found = record { offset = found.0; relocation = found.1 }

-- the bytes of a section from its start, and the numbers in them relocated
abbrev pub relocated_section : Endianness → List ℕ → List (ℕ × Relocation) → Input
relocated_section order bytes relocations =
    relocated_input (map entry_of relocations) 0 (section order bytes)

-- what there is to read of a section: its content is tested before its relocations
unfoldable pub loaded : Elf → DebugSection → SectionMeaning → Result Input ErrorValue
loaded file kind section = do
  bytes ← debug_content kind section
  relocations ← with_relocations file section.name (relocations_of file section.number) []
  Ok (relocated_section file.order bytes relocations)

-- the same of a section that may be absent, which is as an empty one
abbrev pub loaded_if : Elf → DebugSection → Option SectionMeaning → Result Input ErrorValue
loaded_if file kind None = Ok (relocated_section file.order [] [])
loaded_if file kind (Some section) = loaded file kind section

-- what there is to read of the section of a kind
unfoldable pub loaded_first : Elf → DebugSection → Result Input ErrorValue
loaded_first file kind = loaded_if file kind (section_read kind file.sections)

-- the units of an executable, their abbreviations and their strings
pub record DebugData : Type 0 where
  pub debug_abbrev : Input
  pub debug_info : Input
  pub strings : Strings

-- those of the bytes of a file
unfoldable pub debug_data_of : List ℕ → Result DebugData ErrorValue
debug_data_of bytes = do
  file ← as_error ParseObjectFile (elf_of bytes)
  debug_abbrev ← loaded_first file Abbrev
  debug_info ← loaded_first file Info
  debug_line_str ← loaded_first file LineStr
  debug_str ← loaded_first file Str
  debug_str_offsets ← loaded_first file StrOffsets
  Ok (record {
    debug_abbrev = debug_abbrev;
    debug_info = debug_info;
    strings = record {
      debug_str = debug_str;
      debug_line_str = debug_line_str;
      debug_str_offsets = debug_str_offsets;
    };
  })
