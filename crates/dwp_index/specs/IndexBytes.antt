-- The bytes of an index, read from left to right (DWARF 5, 7.3.5.3; for version 2 the
-- GNU page DebugFissionDWP).
use Rattle.std.specs.Prelude.{ℕ, zero, suc, ◌*◌, Bool, List, [], ◌∷◌, ◌++◌, length, drop, Result}
use Rattle.std.specs.Prelude.{Ok, Err, is_none, ◌==◌, ◌&&◌, ◌||◌, nat_lt, if◌then◌else◌}
use Rattle.std.specs.Int.{is_power_of_two}
use Rattle.std.specs.List.{list_any}
use Rattle.dwp_base.specs.Reading.{◌>>=◌}
use Rattle.dwp_base.specs.Numbers.{number}
use Rattle.dwp_base.specs.declared.endian.Endianness.{Endianness}
use Rattle.dwp_bytes.specs.declared.error.ReadError.{ReadError}
use Rattle.dwp_bytes.specs.declared.error.ReadError.TheVariants.{UnexpectedEof, IndexVersion}
use Rattle.dwp_bytes.specs.declared.error.ReadError.TheVariants.{SlotCount, UnknownColumn}
use Rattle.dwp_bytes.specs.declared.error.ReadError.TheVariants.{RepeatedColumn}
use Rattle.dwp_table.specs.Columns.{kind_of_column}
use Rattle.dwp_index.specs.Index.{Index}

-- n numbers of so many bytes, one after the other
abbrev pub numbers : Endianness → ℕ → ℕ → List ℕ → List ℕ
numbers order width zero bytes = []
numbers order width (suc n) bytes =
    number order width bytes ∷ numbers order width n (drop width bytes)

-- n rows of so many numbers of 4 bytes
abbrev pub number_rows : Endianness → ℕ → ℕ → List ℕ → List (List ℕ)
number_rows order columns zero bytes = []
number_rows order columns (suc n) bytes =
    numbers order 4 columns bytes ∷ number_rows order columns n (drop (4 * columns) bytes)

-- what is left after n bytes
abbrev pub after : ℕ → List ℕ → Result (List ℕ) ReadError
after n bytes = if nat_lt (length bytes) n then Err UnexpectedEof else Ok (drop n bytes)

-- 4 bytes in version 2, and 2 bytes in version 5, which 2 bytes of padding follow
unfoldable pub version_of : Endianness → List ℕ → Result ℕ ReadError
version_of order bytes =
    if nat_lt (length bytes) 4 then Err UnexpectedEof
    else if number order 4 bytes == 2 then Ok 2
    else if number order 2 bytes == 5 then Ok 5
    else Err IndexVersion

-- a power of two above the number of rows, or no slots and no rows
abbrev pub is_slot_count : ℕ → ℕ → Bool
is_slot_count units slots =
    (is_power_of_two slots && nat_lt units slots) || (slots == 0 && units == 0)

-- how many columns, rows and slots
pub record Counts : Type 0 where
  pub columns : ℕ
  pub units : ℕ
  pub slots : ℕ

unfoldable pub counts_of : Endianness → List ℕ → Result Counts ReadError
counts_of order bytes =
    if nat_lt (length bytes) 16 then Err UnexpectedEof
    else if is_slot_count (number order 4 (drop 8 bytes)) (number order 4 (drop 12 bytes))
    then Ok (record {
      columns = number order 4 (drop 4 bytes);
      units = number order 4 (drop 8 bytes);
      slots = number order 4 (drop 12 bytes);
    })
    else Err SlotCount

-- a further column, after those before it
unfoldable pub new_column : ℕ → List ℕ → ℕ → Result ℕ ReadError
new_column version before n =
    if is_none (kind_of_column version n) then Err UnknownColumn
    else if list_any (λ c. c == n) before then Err RepeatedColumn
    else Ok n

-- so many further columns, and what is left after them
unfoldable pub columns_at : Endianness → ℕ → List ℕ → ℕ → List ℕ
    → Result (List ℕ × List ℕ) ReadError
columns_at order version before zero bytes = Ok (before, bytes)
columns_at order version before (suc count) bytes = do
  rest ← after 4 bytes
  n ← new_column version before (number order 4 bytes)
  columns_at order version (before ++ n ∷ []) count rest

-- the header of 16 bytes, and then the signatures, the row numbers, the columns, the offsets and
-- the sizes
unfoldable pub index_of : Endianness → List ℕ → Result Index ReadError
index_of order bytes = do
  version ← version_of order bytes
  counts ← counts_of order bytes
  rows ← after (8 * counts.slots) (drop 16 bytes)
  columns ← after (4 * counts.slots) rows
  offsets ← columns_at order version [] counts.columns columns
  sizes ← after (4 * counts.columns * counts.units) offsets.1
  end ← after (4 * counts.columns * counts.units) sizes
  Ok (record {
    version = version;
    columns = offsets.0;
    signatures = numbers order 8 counts.slots (drop 16 bytes);
    rows = numbers order 4 counts.slots rows;
    offsets = number_rows order counts.columns counts.units offsets.1;
    sizes = number_rows order counts.columns counts.units sizes;
  })
