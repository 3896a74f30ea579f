use Rattle.std.proofs.Common.{flat_map, string_bytes, take, ◌++◌, ◌≡◌}
use Rattle.{dwp_index.specs.Index.range_in, dwp_table.specs.Columns.contribution_kinds}
use Rattle.thorin_find.specs.Listing.{range_size}
use Rattle.thorin_find.proofs.listing.put_sizes.Given as goal

-- the sizes of the kinds so far
abbrev pub invariant-loop-kind : goal.invariant-loop-kind
invariant-loop-kind l = string_bytes l.text ≡ string_bytes l.initial.text
    ++ flat_map (λ kind. range_size l.form kind (range_in l.unit.row kind))
    (take l.kind-index contribution_kinds)
