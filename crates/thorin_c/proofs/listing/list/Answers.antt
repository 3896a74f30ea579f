use Rattle.thorin_c.{proofs.Lists.put-next, specs.Listing.name_of}
use Rattle.thorin_c.proofs.listing.list.Goals.{else-place-names, then-place-names}
use Rattle.std.proofs.Common.{append_assoc, arith, length, map, refl, set, sym, ◌∙◌, ◌≡◌}
use Rattle.std.proofs.lemmas.List.{length-map, length_push, set_past}
use Rattle.thorin_c.proofs.listing.list.Goals as goal

pub loop-entry-preserved : goal.loop-entry-preserved
loop-entry-preserved c =
    let done = c.loop-entry.yielded in
    let inv = c.loop-entry.invariant in
    let place = length (map name_of done) in
    let put : c.if-place-names.names ≡ set c.loop-entry.names place (name_of c.in-Some.entry) =
    elim c.if-place-names.branch [
      | then-place-names w ↦
          let here : c.loop-entry.count ≡ place = omega arith in
          rw (w.names-is, here, w.index.ensures, w.kind_number.ensures) refl
      | else-place-names w ↦ w.names-is ∙ sym (set_past c.loop-entry.names place _ (omega arith))
    ] in
    record {
      left = rw (append_assoc, ← c.in-Some.ensures.steps) inv.left;
      count = rw (length-map, length_push) (omega (arith, inv.count, length-map done name_of));
      names = put ∙ put-next name_of c.args.names.now c.loop-entry.names done c.in-Some.entry place
          inv.names refl;
    }
