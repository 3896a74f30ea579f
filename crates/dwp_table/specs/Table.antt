-- A hash table of identifiers, and what looking up in it gives (DWARF 5, 7.3.5.3).
use Rattle.std.specs.Prelude.{◌≡◌, ◌≢◌, ℕ, zero, suc, ◌+◌, ◌*◌, ◌%◌, ◌^◌, ◌<◌, ◌≤◌, List, length}
use Rattle.std.specs.Prelude.{slice_index, slice_set, Option, Some, None, IsTrue, ◌==◌}
use Rattle.std.specs.List.{find, range_with_len}
use Rattle.std.specs.Option.{option_map_or}
use Rattle.std.specs.Int.{is_power_of_two}
use Rattle.dwp_table.specs.Probing.{place}

-- row r stands at the place of x after i others, which have smaller rows
pub record IsPlacedAfter (rows : List ℕ) (x r i : ℕ) : Type 0 where
  pub within : i < length rows
  pub here : slice_index rows (place (length rows) x i) ≡ r
  pub earlier_used : (j : ℕ) → j < i → 0 < slice_index rows (place (length rows) x j)
  pub earlier_smaller : (j : ℕ) → j < i → slice_index rows (place (length rows) x j) < r

-- the rows of a table in which the identifiers were placed in order, the first as row 1;
-- how many slots it has is said apart
pub record IsHashTable (ids rows : List ℕ) : Type 0 where
  pub power : IsTrue (is_power_of_two (length rows))
  pub room : length ids < length rows
  pub small : length rows < 2 ^ 32
  -- each row number stands at a place of its identifier
  pub placed : (r : ℕ) → r < length ids → (i : ℕ) × IsPlacedAfter rows (slice_index ids r) (r + 1) i
  -- in one slot alone
  pub once : (k l : ℕ) → k < length rows → l < length rows → 0 < slice_index rows k
      → slice_index rows k ≡ slice_index rows l → k ≡ l
  -- and there is no other
  pub only : (k : ℕ) → slice_index rows k ≤ length ids

-- how many slots are written: 2 below two units, else the least power of two above half as many
-- again as units
pub record HasSlots (units size : ℕ) : Type 0 where
  pub few : units < 2 → size ≡ 2
  pub power : 2 ≤ units → IsTrue (is_power_of_two size)
  pub above : 2 ≤ units → 3 * units < 2 * size
  pub least : 2 ≤ units → (other : ℕ) → IsTrue (is_power_of_two other)
      → 3 * units < 2 * other → size ≤ other

-- what stands beside a row number: its identifier, and 0 in an unused slot
abbrev pub signature_of : List ℕ → ℕ → ℕ
signature_of ids zero = 0
signature_of ids (suc r) = slice_index ids r

-- no identifier stands twice
abbrev pub AreDistinct : List ℕ → Type 0
AreDistinct ids =
    (a b : ℕ) → a < length ids → b < length ids → slice_index ids a ≡ slice_index ids b → a ≡ b

-- the slots of an index of distinct identifiers
pub record IsIndex (ids signatures rows : List ℕ) : Type 0 where
  pub table : IsHashTable ids rows
  pub distinct : AreDistinct ids
  pub beside : (k : ℕ) → k < length rows
      → slice_index signatures k ≡ signature_of ids (slice_index rows k)

-- a look-up of x gave this row, after so many slots: the row of x, counted from 1, or none where x
-- isn't there
pub record FindsExactly (ids : List ℕ) (x : ℕ) (row : Option ℕ) (count : ℕ) : Type 0 where
  pub present_row : (r : ℕ) → r < length ids → slice_index ids r ≡ x → row ≡ Some (r + 1)
  pub present_count : (r : ℕ) → r < length ids → slice_index ids r ≡ x → count ≤ r + 1
  pub absent_row : ((r : ℕ) → r < length ids → slice_index ids r ≢ x) → row ≡ None
  pub absent_count : ((r : ℕ) → r < length ids → slice_index ids r ≢ x) → count ≤ length ids + 1

-- going on by steps from start, round size slots, meets each slot once within size steps
pub record VisitsEachOnce (size start step : ℕ) : Type 0 where
  pub each : (slot : ℕ) → slot < size → (i : ℕ) × (i < size) × ((start + i * step) % size ≡ slot)
  pub once : (i j : ℕ) → i < size → j < size
      → (start + i * step) % size ≡ (start + j * step) % size → i ≡ j

-- after how many other slots one of the places of x is unused
unfoldable pub first_unused : List ℕ → ℕ → Option ℕ
first_unused rows x =
    find (λ i. slice_index rows (place (length rows) x i) == 0) (range_with_len 0 (length rows))

-- the rows after row r went to that place
unfoldable pub rows_with : List ℕ → ℕ → ℕ → List ℕ
rows_with rows x r =
    option_map_or (λ i. slice_set rows (place (length rows) x i) r) (first_unused rows x) rows
