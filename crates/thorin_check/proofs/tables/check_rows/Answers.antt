use Rattle.thorin_check.proofs.Told.{exit_is, none_told, row_more, stopped_behind, told_then}
use Rattle.std.proofs.lemmas.List.Elements.{All-cons, All-nil, Contains-push}
use Rattle.std.proofs.Common.{arith, inl, inr, refl, [], ◌+◌, ◌∷◌}
use Rattle.thorin_check.specs.Faults.{IsUnnamed}
use Rattle.thorin_check.proofs.tables.check_rows.Goals as goal

pub loop-row-init : goal.loop-row-init
loop-row-init g c = record {
  told = none_told _ (record {
    rows = [];
    are = refl;
    unnamed = All-nil _;
    others = λ row some lt. absurd (omega arith);
  }) _;
  past = record { past = λ k d lt. absurd (omega arith) };
}

pub loop-row-preserved-then-is_named : goal.loop-row-preserved-then-is_named
loop-row-preserved-then-is_named g c = record {
  told = told_then (row_more c.args.kind.now c.args.is_types c.args.entries.now c.loop-row.row []
      (All-nil _) (inr (c.is_named.ensures.named c.if-is_named.true))) c.loop-row.invariant.told
      (none_told _ refl _);
  past = grind arith;
}

pub loop-row-preserved : goal.loop-row-preserved
loop-row-preserved g c = record {
  told = told_then (row_more c.args.kind.now c.args.is_types c.args.entries.now c.loop-row.row
      (c.loop-row.row ∷ []) (All-cons (IsUnnamed c.args.entries.now c.args.is_types
      (c.loop-row.row + 1)) c.loop-row.row [] (
        omega arith,
        omega arith,
        c.is_named.ensures.unnamed c.if-is_named.false,
      ) (All-nil _))
      (inl (Contains-push [] c.loop-row.row))) c.loop-row.invariant.told c.in_ok-tell_row.ensures;
  past = grind arith;
}

pub returns-in_err-tell_row : goal.returns-in_err-tell_row
returns-in_err-tell_row g c =
    rw (exit_is c.from_residual.ensures.1) (stopped_behind _
    c.loop-row.invariant.told c.in_err-tell_row.ensures)
