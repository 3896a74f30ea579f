-- Looking an identifier up in the hash table of an index (DWARF 5, 7.3.5.3; the
-- GNU page DebugFissionDWP).
-- A table has a number of slots, a power of two. Slot k has the identifier at k in a list of
-- signatures, and the row number at k in a list of rows. Rows count from 1: a slot whose row is 0
-- is unused, whatever its signature.
use Rattle.std.specs.Prelude.{ℕ, zero, suc, ◌+◌, ◌-◌, ◌*◌, ◌/◌, ◌%◌, ◌^◌, Bool, List, length}
use Rattle.std.specs.Prelude.{slice_index, Option, Some, None, bit_and, bit_or, ◌==◌, ◌||◌}
use Rattle.std.specs.List.{find, range_with_len}
use Rattle.std.specs.Option.{option_and_then, option_map_or}

-- how far the places of x lie apart: the upper half of x below size, made odd
unfoldable pub step : ℕ → ℕ → ℕ
step size x = bit_or (bit_and (x / 2 ^ 32) (size - 1)) 1

-- the slot that is looked at after i others: from the lower bits of x on by steps, round the table
unfoldable pub place : ℕ → ℕ → ℕ → ℕ
place size x i = (bit_and x (size - 1) + i * step size x) % size

-- slot k ends the look-up of x: it is unused, or it has x
abbrev pub is_end : List ℕ → List ℕ → ℕ → ℕ → Bool
is_end signatures rows x k = (slice_index rows k == 0) || (slice_index signatures k == x)

-- after how many other slots the look-up of x ends
unfoldable pub first_end : List ℕ → List ℕ → ℕ → Option ℕ
first_end signatures rows x =
    find (λ i. is_end signatures rows x (place (length rows) x i)) (range_with_len 0 (length rows))

-- the row of a slot: none where it is unused
abbrev pub row_of : ℕ → Option ℕ
row_of zero = None
row_of (suc r) = Some (suc r)

-- what the look-up of x finds
unfoldable pub found_row : List ℕ → List ℕ → ℕ → Option ℕ
found_row signatures rows x = option_and_then (λ i.
    row_of (slice_index rows (place (length rows) x i))) (first_end signatures rows x)

-- at how many slots the look-up of x looks
unfoldable pub look_count : List ℕ → List ℕ → ℕ → ℕ
look_count signatures rows x = option_map_or suc (first_end signatures rows x) (length rows)
