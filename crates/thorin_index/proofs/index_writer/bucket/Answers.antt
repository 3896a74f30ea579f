use Rattle.std.proofs.Common.{arith, drop, length, length-take-le, refl, replicate, rules, take_all}
use Rattle.std.proofs.Common.{map, take, take_at, [], ◌++◌, ◌+◌, ◌∙◌, ◌∷◌, ◌≡◌}
use Rattle.std.proofs.lemmas.{Grind.common_steps, List.length-map, List.map_more}
use Rattle.{dwp_table.proofs.Placing.empty_table, thorin_index.proofs.Held.looked_more}
use Rattle.thorin_index.proofs.index_writer.bucket.Goals as goal

pub loop-i-init : goal.loop-i-init
loop-i-init g c =
    let size = c.slot_count.result in
    let items : c.in_ok-slots.slots.items ≡ replicate size 0 =
    c.in_ok-slots.ensures.items_if_clones_equal (λ _ e. e) in
    record {
      table = rw (c.as_mut_slice-table.ensures.value, items)
          (empty_table size c.slot_count.ensures.power c.slot_count.type_inv);
      looked = rw c.in_ok-looked.ensures.items
          (record { length_is = refl; each = λ r h. absurd (omega arith) });
    }

pub loop-i-preserved : goal.loop-i-preserved
loop-i-preserved g c =
    let id = g.B.Bucketable.identifier in
    let units = c.args.units.now in
    let i = c.loop-i.i in
    let ids = map id (take i units) in
    let count : length ids ≡ i = length-map (take i units) id
    ∙ length-take-le i units (omega arith) in
    let more : map id (take (i + 1) units) ≡ ids ++ c.index.result ∷ [] = map_more id units
    i c.index-units-i.result (omega arith) ∙ rw (← c.index-units-i.is, ← c.index.ensures) refl in
    let placed = c.place_row.ensures in
    let before = c.loop-i.invariant in
    let same = c.loop-i.auto.table in
    let long : length c.loop-i.table ≡ c.slot_count.result =
    omega (arith, same, c.as_mut_slice-table.ensures.len, c.in_ok-slots.ensures.len) in
    record {
      table = rw more (placed.table ids before.table (omega (arith, count))
          (omega (arith, long, c.slot_count.ensures.room)));
      looked = rw (more, c.in_ok-push.ensures.items) (looked_more ids c.loop-i.table
          c.place_row.new.slots c.loop-i.looked.items c.index.result c.unwrap.result placed.kept
          (rw count (rw c.unwrap.ensures at (placed.last ids before.table (omega (arith, count)))))
          (rw c.unwrap.ensures at (placed.count ids before.table)) before.looked);
    }

pub returns : goal.returns
returns g c =
    let same = take_at c.loop-i.table (drop (length c.loop-i.table)
    c.in_ok-slots.slots.items) c.in_ok-slots.slots.len
    (omega (arith, c.loop-i.auto.table, c.as_mut_slice-table.ensures.len)) in
    let all = take_all c.loop-i.i c.args.units.now (omega arith) in
    record {
      refusal = search rules;
      table = rw same (rw all at c.loop-i.invariant.table);
      slots = rw same (grind (arith, common_steps, c.slot_count.ensures.slots));
      looked = rw same (rw all at c.loop-i.invariant.looked);
    }
