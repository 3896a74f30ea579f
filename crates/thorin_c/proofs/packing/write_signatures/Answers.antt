use Rattle.std.proofs.Common.{arith, get_or, length-take-le, set, sym, take, ◌∙◌, ◌≡◌}
use Rattle.thorin_c.proofs.packing.write_signatures.Goals.{else-i-types, then-i-types}
use Rattle.std.proofs.lemmas.List.{length-map, set_past, take_more}
use Rattle.thorin_c.proofs.Lists.{put-next}
use Rattle.thorin_c.proofs.packing.write_signatures.Goals as goal

pub loop-i-preserved : goal.loop-i-preserved
loop-i-preserved c =
    let all = c.args.signatures.now in
    let i = c.loop-i.i in
    let put : c.if-i-types.types ≡ set c.loop-i.types i (get_or all i (record { 0 = 0 })).0 =
    elim c.if-i-types.branch [
      | then-i-types w ↦ w.types-is
      | else-i-types w ↦ w.types-is ∙ sym (set_past c.loop-i.types i _ (omega arith))
    ] in
    rw (take_more all i (record { 0 = 0 }) c.loop-i-test.true) (put ∙ put-next (λ s. s.0)
    c.args.types.now c.loop-i.types (take i all) (get_or all i (record { 0 = 0 })) i
    c.loop-i.invariant
    (sym (length-map (take i all) (λ s. s.0) ∙ length-take-le i all (omega arith))))
