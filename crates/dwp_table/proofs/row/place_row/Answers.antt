use Rattle.std.proofs.Common.{arith, length, refl, set, ◌+◌, ◌-◌, ◌≡◌}
use Rattle.dwp_table.proofs.Placing.{AllUsed, first_unused-free, first_unused-none, not_all_used}
use Rattle.dwp_table.proofs.Placing.{placed_table, stands, stays}
use Rattle.dwp_table.specs.{Probing.place, Table.rows_with}
use Rattle.dwp_table.proofs.Tables.{free_early, IsFree}
use Rattle.dwp_table.proofs.row.place_row.Goals as goal

pub returns-then-slots-at-eq0 : goal.returns-then-slots-at-eq0
unfolding rows_with
returns-then-slots-at-eq0 c =
    let old = c.args.slots.now in
    let x = c.args.x in
    let row = c.args.row in
    let i = c.loop-i.i in
    let far = c.loop-i.invariant in
    let free : IsFree old x i = record {
      within = omega arith;
      here = rw (← far.at_place, ← far.same) c.if-slots-at-eq0.true;
      earlier = rw (← far.same) far.earlier;
    } in
    let first = first_unused-free old x i free in
    let is : set c.loop-i.slots c.loop-i.at row ≡ set old (place (length old) x i) row =
    rw (far.same, far.at_place) refl in
    let before : i + 1 - 1 ≡ i = omega arith in
    record {
      looked = rw first refl;
      placed = rw first is;
      kept = λ y r j some at. rw is (stays old x i row free y r j some at);
      table = λ ids table last room.
          rw (is, last) (placed_table ids old x i table free (omega arith));
      last = λ ids table last. (
        omega arith,
        rw (is, before) (stands old x i row free table.power
            (λ k. omega (arith, table.only k))),
      );
      count = λ ids table. omega (arith, free_early ids old x i table free);
    }

pub returns : goal.returns
unfolding rows_with
returns c =
    let old = c.args.slots.now in
    let x = c.args.x in
    let far = c.loop-i.invariant in
    let used : AllUsed old x = λ j h. rw far.same at (far.earlier j (omega arith)) in
    let none = first_unused-none old x used in
    record {
      looked = rw none refl;
      placed = rw none far.same;
      kept = λ y r j some at. rw far.same at;
      table = λ ids table last room. absurd (not_all_used ids old x table used);
      last = λ ids table last. absurd (not_all_used ids old x table used);
      count = λ ids table. absurd (not_all_used ids old x table used);
    }
