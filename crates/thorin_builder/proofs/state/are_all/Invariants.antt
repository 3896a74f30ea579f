use Rattle.{thorin_builder.specs.RowsByIndex.rows_in, thorin_join.proofs.Terms.IdentifiersFit}
use Rattle.std.proofs.Common.{drop, ◌≡◌}
use Rattle.thorin_builder.proofs.state.are_all.Given as goal

-- all are chosen where those that are left are; all identifiers have 64 bits where those have
abbrev pub invariant-loop-position : goal.invariant-loop-position
invariant-loop-position l = (rows_in l.index (drop l.position l.rows) ≡ drop l.position l.rows
    → rows_in l.index l.rows ≡ l.rows)
    × (IdentifiersFit (drop l.position l.rows) → IdentifiersFit l.rows)
