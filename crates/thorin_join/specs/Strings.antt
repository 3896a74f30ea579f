-- The list of strings that a range of string offsets names (DWARF 5, 7.26).
use Rattle.std.specs.Prelude.{ℕ, zero, suc, ◌+◌, ◌*◌, List, [], ◌∷◌, length, drop, Result, Ok}
use Rattle.dwp_base.specs.Reading.{◌>>=◌}
use Rattle.dwp_base.specs.Numbers.{number}
use Rattle.dwp_base.specs.declared.endian.Endianness.{Endianness}
use Rattle.dwp_bytes.specs.Encoding.{offset_size}
use Rattle.dwp_bytes.specs.StringOffsets.{header_size, entry_count, string_at}
use Rattle.dwp_bytes.specs.declared.encoding.Encoding.{Encoding}
use Rattle.dwp_bytes.specs.declared.error.ReadError.{ReadError}

-- what a function gives of so many numbers, from a number on
abbrev pub each_from : (ℕ → ℕ) → ℕ → ℕ → List ℕ
each_from f i zero = []
each_from f i (suc n) = f i ∷ each_from f (i + 1) n

-- the offset that is the entry of a number
abbrev pub offset_of_entry : Endianness → Encoding → List ℕ → ℕ → ℕ
offset_of_entry order encoding range i = number order (offset_size encoding.format)
    (drop (header_size encoding + i * offset_size encoding.format) range)

-- the offsets of a range, in order
abbrev pub offsets_in : Endianness → Encoding → List ℕ → List ℕ
offsets_in order encoding range =
    each_from (offset_of_entry order encoding range) 0 (entry_count encoding (length range))

-- the strings at these offsets of a section, or the first error
unfoldable pub strings_at : List ℕ → List ℕ → Result (List (List ℕ)) ReadError
strings_at section [] = Ok []
strings_at section (offset ∷ offsets) = do
  string ← string_at section offset
  others ← strings_at section offsets
  Ok (string ∷ others)

-- the strings that a range names in a section, or the first error
abbrev pub strings_of : Endianness → Encoding → (section range : List ℕ)
    → Result (List (List ℕ)) ReadError
strings_of order encoding section range = strings_at section (offsets_in order encoding range)
