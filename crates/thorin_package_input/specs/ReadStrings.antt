-- A rewritten range of string offsets, as a reader of packages reads it (DWARF 5, 7.26).
use Rattle.std.specs.Prelude.{◌≡◌, ℕ, List, IsOk}
use Rattle.dwp_base.specs.declared.endian.Endianness.{Endianness}
use Rattle.dwp_bytes.specs.declared.encoding.Encoding.{Encoding}
use Rattle.dwp_bytes.specs.StringOffsets.{string_in}

-- of each number both ranges, each with its section, give the same string, or none, and no error
pub record ReadsAlike (order : Endianness) (encoding : Encoding)
    (section bytes new_section rewritten : List ℕ) (i : ℕ) : Type 0 where
  pub readable : IsOk (string_in order encoding section bytes i)
  pub same : string_in order encoding new_section rewritten i
      ≡ string_in order encoding section bytes i
