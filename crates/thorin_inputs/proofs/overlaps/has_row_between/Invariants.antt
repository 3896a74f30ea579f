use Rattle.{dwp_index.specs.Index.row_in, thorin_inputs.specs.InnerStrings.is_row_between}
use Rattle.std.proofs.Common.{length, ◌+◌, ◌-◌, ◌≡◌}
use Rattle.std.specs.List.{list_any, range_with_len}
use Rattle.thorin_inputs.proofs.overlaps.has_row_between.Given as goal

-- some row of those that are left, where it is one of all
abbrev pub invariant-loop-number : goal.invariant-loop-number
invariant-loop-number l =
    list_any (λ r. is_row_between (row_in l.index (r + 1)))
    (range_with_len l.number (length l.index.offsets - l.number)) ≡
    list_any (λ r. is_row_between (row_in l.index (r + 1)))
    (range_with_len 0 (length l.index.offsets))
