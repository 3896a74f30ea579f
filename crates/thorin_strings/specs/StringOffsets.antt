-- String offsets, rewritten to the same strings in a table of distinct ones (DWARF 5, 7.26).
use Rattle.std.specs.Prelude.{ℕ, zero, suc, ◌+◌, ◌-◌, ◌*◌, ◌^◌, nat_lt, ◌==◌, if◌then◌else◌, List}
use Rattle.std.specs.Prelude.{[], ◌∷◌, ◌++◌, length, drop, codes, Result, Ok, Err}
use Rattle.std.specs.List.{flat_map}
use Rattle.dwp_base.specs.Reading.{◌>>=◌}
use Rattle.dwp_base.specs.declared.endian.Endianness.{Endianness}
use Rattle.dwp_base.specs.Numbers.{number, number_bytes}
use Rattle.dwp_bytes.specs.declared.encoding.Format.{Format}
use Rattle.dwp_bytes.specs.declared.encoding.Format.TheVariants.{Dwarf32, Dwarf64}
use Rattle.dwp_bytes.specs.declared.encoding.Encoding.{Encoding}
use Rattle.dwp_bytes.specs.declared.error.ReadError.{ReadError}
use Rattle.dwp_bytes.specs.declared.error.ReadError.TheVariants.{UnexpectedEof}
use Rattle.dwp_bytes.specs.Encoding.{offset_size}
use Rattle.dwp_bytes.specs.StringOffsets.{header_size, entry_count, string_at}
use Rattle.thorin_errors.specs.Errors.{ErrorValue, OffsetAtIndex, StrAtOffset, NumberTooLarge}
use Rattle.thorin_errors.specs.Errors.{BadStringOffsets}
use Rattle.thorin_errors.specs.Answers.{as_error}
use Rattle.dwp_strings.specs.Strings.{offset_of, with_string}

-- the largest length that an initial length of the format holds, and the largest offset (7.4)
abbrev pub length_limit : Format → ℕ
length_limit Dwarf32 = 0xffffffef
length_limit Dwarf64 = 2 ^ 64 - 1

abbrev pub offset_limit : Format → ℕ
offset_limit Dwarf32 = 2 ^ 32 - 1
offset_limit Dwarf64 = 2 ^ 64 - 1

-- an initial length
abbrev pub initial_length : Endianness → Format → ℕ → List ℕ
initial_length order Dwarf32 n = number_bytes order 4 n
initial_length order Dwarf64 n = number_bytes order 4 (2 ^ 32 - 1) ++ number_bytes order 8 n

-- the header of entries of so many bytes: the length of what follows it, version 5 and padding
unfoldable pub header_of : Endianness → Encoding → ℕ → Result (List ℕ) ErrorValue
header_of order encoding size =
    if nat_lt encoding.version 5
    then Ok []
    else (if nat_lt (length_limit encoding.format) (size + 4)
    then Err (NumberTooLarge (codes "string offsets length") (size + 4))
    else Ok (initial_length order encoding.format (size + 4) ++ number_bytes order 2 5
    ++ number_bytes order 2 0))

-- the offset at a place
unfoldable pub offset_at : Endianness → Format → List ℕ → ℕ → Result ℕ ReadError
offset_at order format bytes at =
    if nat_lt (length bytes) (at + offset_size format)
    then Err UnexpectedEof
    else Ok (number order (offset_size format) (drop at bytes))

-- the offset that the entry of a number has
abbrev pub entry_at : Endianness → Encoding → List ℕ → ℕ → Result ℕ ErrorValue
entry_at order encoding bytes index =
    as_error (λ e. OffsetAtIndex e index) (offset_at order encoding.format bytes
    (header_size encoding + index * offset_size encoding.format))

-- the string at an offset
abbrev pub string_read : List ℕ → ℕ → Result (List ℕ) ErrorValue
string_read section offset = as_error (λ e. StrAtOffset e offset) (string_at section offset)

-- the string that the entry of a number names
unfoldable pub named_at : Endianness → Encoding → (section bytes : List ℕ) → ℕ
    → Result (List ℕ) ErrorValue
named_at order encoding section bytes index = do
  offset ← entry_at order encoding bytes index
  string_read section offset

-- an offset, which is to fit the format
unfoldable pub fitting_offset : Format → ℕ → Result ℕ ErrorValue
fitting_offset format offset = if nat_lt (offset_limit format) offset
    then Err (NumberTooLarge (codes "string offset") offset) else Ok offset

-- the entry of a number once it names its string among the distinct ones, and these strings
unfoldable pub remapped_entry : Endianness → Encoding → (section bytes : List ℕ) → ℕ → List (List ℕ)
    → Result (ℕ × List (List ℕ)) ErrorValue
remapped_entry order encoding section bytes index strings = do
  string ← named_at order encoding section bytes index
  offset ← fitting_offset encoding.format (offset_of strings string)
  Ok (offset, with_string strings string)

-- the same of so many first entries
unfoldable pub remapped_entries : Endianness → Encoding → (section bytes : List ℕ) → ℕ
    → List (List ℕ) → Result (List ℕ × List (List ℕ)) ErrorValue
remapped_entries order encoding section bytes zero strings = Ok ([], strings)
remapped_entries order encoding section bytes (suc n) strings = do
  before ← remapped_entries order encoding section bytes n strings
  entry ← remapped_entry order encoding section bytes n before.1
  Ok (before.0 ++ entry.0 ∷ [], entry.1)

-- the bytes of entries
abbrev pub entry_bytes : Endianness → Format → List ℕ → List ℕ
entry_bytes order format offsets = flat_map (number_bytes order (offset_size format)) offsets

-- a range of so many bytes once its entries name their strings among the distinct ones, and these
-- strings. A range of no bytes stays one
unfoldable pub remapped : Endianness → Encoding → (section bytes : List ℕ) → ℕ → List (List ℕ)
    → Result (List ℕ × List (List ℕ)) ErrorValue
remapped order encoding section bytes size strings =
    if size == 0
    then Ok ([], strings)
    else (if nat_lt size (header_size encoding)
    then Err (BadStringOffsets 0)
    else (do
      header ← header_of order encoding (entry_count encoding size * offset_size encoding.format)
      entries ← remapped_entries order encoding section bytes (entry_count encoding size) strings
      Ok (header ++ entry_bytes order encoding.format entries.0, entries.1)))
