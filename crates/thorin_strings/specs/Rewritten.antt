-- What a rewritten range of string offsets keeps: an entry names the string that it named before
-- (DWARF 5, 7.26).
use Rattle.std.specs.Prelude.{◌≡◌, ◌≢◌, ℕ, ◌+◌, ◌*◌, ◌<◌, List, [], length, take, Ok, Contains}
use Rattle.dwp_base.specs.declared.endian.Endianness.{Endianness}
use Rattle.dwp_bytes.specs.Encoding.{offset_size}
use Rattle.dwp_bytes.specs.declared.encoding.Encoding.{Encoding}
use Rattle.dwp_strings.specs.Strings.{data_of, IsTable}
use Rattle.dwp_bytes.specs.StringOffsets.{header_size, entry_count}
use Rattle.thorin_strings.specs.StringOffsets.{named_at}

-- the entry of a number names one string of these distinct ones, in its old section and in that of
-- any table that begins with them
pub record NamesOneString (order : Endianness) (encoding : Encoding)
    (section bytes rewritten : List ℕ) (strings : List (List ℕ)) (index : ℕ) : Type 0 where
  pub string : List ℕ
  pub there : Contains strings string
  pub old : named_at order encoding section bytes index ≡ Ok string
  pub new : (final : List (List ℕ)) → IsTable final → take (length strings) final ≡ strings
      → named_at order encoding (data_of final) rewritten index ≡ Ok string

-- a range of so many bytes was rewritten: the strings before keep their offsets, and it has as many
-- entries, which name the strings that they named
pub record NamesTheSame (order : Endianness) (encoding : Encoding) (section bytes : List ℕ)
    (size : ℕ) (before : List (List ℕ)) (rewritten : List ℕ) (after : List (List ℕ)) : Type 0 where
  pub table : IsTable after
  pub kept : take (length before) after ≡ before
  pub count : entry_count encoding (length rewritten) ≡ entry_count encoding size
  pub none : size ≡ 0 → rewritten ≡ []
  pub long : size ≢ 0 → length rewritten
      ≡ header_size encoding + entry_count encoding size * offset_size encoding.format
  pub named : (index : ℕ) → index < entry_count encoding size
      → NamesOneString order encoding section bytes rewritten after index
