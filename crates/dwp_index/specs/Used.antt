-- The slots of an index that are used, in order.
use Rattle.std.specs.Prelude.{ℕ, ◌-◌, List, [], length, map, filter, slice_index, Option, Some}
use Rattle.std.specs.Prelude.{None, not, ◌==◌}
use Rattle.std.specs.List.{range_with_len}
use Rattle.dwp_index.specs.Index.{Index}

-- the signature and the row number of a slot
abbrev pub slot_at : Index → ℕ → ℕ × ℕ
slot_at index k = (slice_index index.signatures k, slice_index index.rows k)

-- the used slots from slot k on
unfoldable pub used_in : Index → ℕ → List (ℕ × ℕ)
used_in index k =
    filter (λ s. not (s.1 == 0)) (map (slot_at index) (range_with_len k (length index.rows - k)))

abbrev pub used_from : Option Index → ℕ → List (ℕ × ℕ)
used_from None k = []
used_from (Some index) k = used_in index k
