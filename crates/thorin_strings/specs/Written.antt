-- String offsets of four bytes, the lowest first, of which the first are rewritten.
use Rattle.std.specs.Prelude.{◌≡◌, ℕ, ◌+◌, ◌*◌, ◌++◌, List, take, Ok}
use Rattle.dwp_base.specs.declared.endian.Endianness.TheVariants.{Little}
use Rattle.dwp_bytes.specs.declared.encoding.Encoding.{Encoding}
use Rattle.dwp_bytes.specs.StringOffsets.{header_size}
use Rattle.thorin_strings.specs.StringOffsets.{remapped_entries, entry_bytes}

-- so many entries of a range are rewritten, from the first strings to those that there are now:
-- they stand behind the header
pub record AreWritten (encoding : Encoding) (section bytes : List ℕ) (count : ℕ) (front : List ℕ)
    (old new : List (List ℕ)) (out : List ℕ) : Type 0 where
  pub offsets : List ℕ
  pub entries : remapped_entries Little encoding section bytes count old ≡ Ok (offsets, new)
  pub written : take (header_size encoding + count * 4) out ≡ front ++ entry_bytes Little
      encoding.format offsets
