use Rattle.{thorin_c.proofs.Lists.refuses, thorin_errors.specs.Errors.error_of}
use Rattle.thorin_c.proofs.packing.thorin_pack.Goals.{else-packed, then-packed}
use Rattle.std.proofs.Common.{arith, inl, inr, length, rules, ◌∙◌, ◌≡◌}
use Rattle.std.proofs.Math.Seq.{take-append_seam}
use Rattle.thorin_c.proofs.packing.thorin_pack.Goals as goal

pub returns-else-len-out-clause-again : goal.returns-else-len-out-clause-again
returns-else-len-out-clause-again c done one =
    let file = c.in-Ok.packed.file.items in
    let written : c.copy_from_slice.new.self ≡ file = search rules in
    let size : c.len-len.result ≡ length file = search rules in
    rw (written, size, take-append_seam file _) (elim c.if-packed.branch [
      | then-packed w ↦ c.in-Ok.ensures.again w.if-packed.true
      | else-packed w ↦ absurd (omega (arith, w.report-is, one))
    ])

pub returns-in-Err-clause-refused : goal.returns-in-Err-clause-refused
returns-in-Err-clause-refused c = λ h. refuses c.args.inputs.now c.in-Err.refusal _
    c.in-Err.ensures.refused (c.refused.ensures.told (search (rules, h)))

pub returns-in-Err-clause-unfinished : goal.returns-in-Err-clause-unfinished
returns-in-Err-clause-unfinished c =
    λ h. let told = c.refused.ensures.unfinished (search (rules, h)) in
    elim c.in-Err.ensures.refused [
      | inl at ↦ absurd (omega (arith, told.0, at.within))
      | inr is ↦ record {
        error = error_of c.in-Err.refusal.error;
        state = is.1.state;
        accepted = is.1.accepted;
        refused = is.1.refused told.1.0;
        told = told.1.1;
      }
    ]

pub returns-in-Err-clause-memory : goal.returns-in-Err-clause-memory
returns-in-Err-clause-memory c =
    λ h. let told = c.refused.ensures.memory (search (rules, h)) in
    elim c.in-Err.ensures.refused [
      | inl at ↦
          inl (rw told.1 (record { within = at.within; state = at.state; before = at.before }))
      | inr is ↦
          let all = told.1 ∙ is.0 in
          inr (record {
            some = rw all (is.1.memory told.0);
            all = all;
            state = is.1.state;
            accepted = is.1.accepted;
          })
    ]
