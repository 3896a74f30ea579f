-- How many slots are looked at to place each identifier of a table (DWARF 5, 7.3.5.3).
use Rattle.std.specs.Prelude.{◌≡◌, ℕ, ◌+◌, ◌<◌, ◌≤◌, List, length, slice_index}
use Rattle.dwp_table.specs.Table.{IsPlacedAfter}

-- to place row r + 1, so many slots were looked at: the last of them has it, and those before it
-- have smaller rows; they are at most r + 1
pub record LooksAt (ids rows : List ℕ) (r looked : ℕ) : Type 0 where
  pub others : ℕ
  pub count : looked ≡ others + 1
  pub early : others ≤ r
  pub placed : IsPlacedAfter rows (slice_index ids r) (r + 1) others

-- the same for each row of the table
pub record IsLooked (ids rows looked : List ℕ) : Type 0 where
  pub length_is : length looked ≡ length ids
  pub each : (r : ℕ) → r < length ids → LooksAt ids rows r (slice_index looked r)
