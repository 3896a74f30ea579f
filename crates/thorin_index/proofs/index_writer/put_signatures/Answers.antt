use Rattle.std.proofs.Common.{List, ap, arith, get_or, length, refl, suc, ℕ, ◌-◌, ◌<◌, ◌∙◌, ◌≡◌}
use Rattle.thorin_index.specs.{IndexText.entry_ids, declared.entry.IndexEntry.IndexEntry}
use Rattle.{dwp_base.specs.Numbers.number_bytes, std.proofs.lemmas.List.get_or-map}
use Rattle.dwp_table.specs.{Objects.identifier_of, Table.signature_of}
use Rattle.thorin_index.{proofs.Held.one_piece, specs.Rows.blank}
use Rattle.thorin_index.proofs.index_writer.put_signatures.Goals.{else-row-eq0, then-row-eq0}
use Rattle.thorin_index.proofs.index_writer.put_signatures.Goals as goal

signature_at : (entries : List IndexEntry) (r row : ℕ) (d : IndexEntry) → row ≡ suc r → r
    < length entries → identifier_of (get_or entries r d).id ≡ signature_of (entry_ids entries) row
signature_at entries r row d is within =
    rw (is, get_or-map (λ (x : IndexEntry). identifier_of x.id) entries r d 0 within) refl

pub loop-row-preserved : goal.loop-row-preserved
loop-row-preserved c =
    let row = get_or c.args.slots.now c.loop-row.row-index 0 in
    let few = c.requires c.loop-row.row-index 0 c.loop-row-test.true in
    let is : c.if-row-eq0.signature ≡ signature_of (entry_ids c.args.rows.now) row =
    elim c.if-row-eq0.branch [
      | then-row-eq0 w ↦ w.signature-is ∙ rw w.if-row-eq0.true refl
      | else-row-eq0 w ↦ w.signature-is ∙ w.index-signature.ensures ∙ ap
          identifier_of w.unit.ensures
          ∙ signature_at c.args.rows.now (row - 1) row blank (omega arith) (omega (arith, few))
    ] in
    one_piece (λ row. number_bytes c.args.order 8 (signature_of (entry_ids c.args.rows.now) row))
    c.args.slots.now c.loop-row.row-index _ _ _ _ c.loop-row-test.true c.loop-row.invariant
    (rw (c.bytes_of_u64.ensures, is) at c.in_ok-extend_from_slice.ensures.items)
