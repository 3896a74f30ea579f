use Rattle.{thorin_builder.specs.RowsByIndex.rows_in, thorin_join.proofs.Terms.IdentifiersFit}
use Rattle.std.proofs.Common.{drop, ◌++◌, ◌≡◌}
use Rattle.thorin_builder.proofs.state.rows_in.Given as goal

-- those chosen so far, and those chosen of the rows that are left, are those of all; all
-- identifiers have 64 bits where those of the rows that are left have
abbrev pub invariant-loop-position : goal.invariant-loop-position
invariant-loop-position l = (l.chosen ++ rows_in l.index (drop l.position l.rows)
    ≡ rows_in l.index l.rows) × (IdentifiersFit (drop l.position l.rows) → IdentifiersFit l.rows)
