-- String offsets: offsets of strings, by number (DWARF 5, 7.26). Before DWARF 5 they have no header
-- (the GNU page DebugFissionDWP).
use Rattle.std.specs.Prelude.{ℕ, ◌+◌, ◌-◌, ◌*◌, ◌/◌, nat_lt, nat_le, ◌==◌, if◌then◌else◌, List}
use Rattle.std.specs.Prelude.{length, drop, Option, Some, None, Result, Ok, Err}
use Rattle.std.specs.List.{list_any, before_first}
use Rattle.dwp_base.specs.Numbers.{number}
use Rattle.dwp_base.specs.Reading.{◌>>=◌}
use Rattle.dwp_base.specs.declared.endian.Endianness.{Endianness}
use Rattle.dwp_bytes.specs.declared.encoding.Encoding.{Encoding}
use Rattle.dwp_bytes.specs.declared.encoding.Format.{Format}
use Rattle.dwp_bytes.specs.declared.encoding.Format.TheVariants.{Dwarf32, Dwarf64}
use Rattle.dwp_bytes.specs.declared.error.ReadError.{ReadError}
use Rattle.dwp_bytes.specs.declared.error.ReadError.TheVariants.{OffsetOutOfRange, NoTerminator}
use Rattle.dwp_bytes.specs.Encoding.{offset_size}

-- how many bytes an initial length has (7.4)
abbrev pub length_size : Format → ℕ
length_size Dwarf32 = 4
length_size Dwarf64 = 12

-- how many bytes stand before the offsets: a length, a version of 2 bytes and padding of 2 bytes,
-- or before DWARF 5 none
abbrev pub header_size : Encoding → ℕ
header_size encoding = if nat_le 5 encoding.version then length_size encoding.format + 4 else 0

-- how many whole offsets so many bytes have
abbrev pub entry_count : Encoding → ℕ → ℕ
entry_count encoding size = (size - header_size encoding) / offset_size encoding.format

-- the bytes at a place of a section before the next zero, or up to the end where there is none
abbrev pub string_from : List ℕ → ℕ → List ℕ
string_from section at = before_first (λ b. b == 0) (drop at section)

-- the string at an offset of a section, which a zero ends
unfoldable pub string_at : List ℕ → ℕ → Result (List ℕ) ReadError
string_at section at =
    if nat_lt (length section) at
    then Err OffsetOutOfRange
    else (if list_any (λ b. b == 0) (drop at section) then Ok (string_from section at)
    else Err NoTerminator)

-- the i-th offset of a range; none past the last whole one
unfoldable pub entry_in : Endianness → Encoding → List ℕ → ℕ → Option ℕ
entry_in order encoding bytes i =
    if nat_lt i (entry_count encoding (length bytes))
    then Some (number order (offset_size encoding.format)
    (drop (header_size encoding + i * offset_size encoding.format) bytes))
    else None

-- the string that an offset of a range names
abbrev pub string_for : List ℕ → Option ℕ → Result (Option (List ℕ)) ReadError
string_for strings None = Ok None
string_for strings (Some offset) = string_at strings offset >>= λ string. Ok (Some string)

-- the i-th string of a range of string offsets
unfoldable pub string_in : Endianness → Encoding → (strings range : List ℕ) → ℕ
    → Result (Option (List ℕ)) ReadError
string_in order encoding strings range i = string_for strings (entry_in order encoding range i)
