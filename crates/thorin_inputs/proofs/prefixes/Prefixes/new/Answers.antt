use Rattle.std.{proofs.lemmas.List.get_or_default, proofs.lemmas.List.length_push, specs.Borrow.Bor}
use Rattle.std.proofs.Common.{[], add-one, arith, length, List, refl, rules, take-suc, ℕ, ◌≡◌}
use Rattle.thorin_inputs.proofs.prefixes.Prefixes.new.Goals.{in-Some+in_ok-insert, in_default}
use Rattle.thorin_inputs.proofs.Fronts.{nested-more, passed, put, rising}
use Rattle.thorin_inputs.proofs.prefixes.Prefixes.new.Goals as goal

abbrev none : Bor (List ℕ)
none = record { ref_ptr = (0, 0); now = [] }

pub loop-word-preserved : goal.loop-word-preserved
loop-word-preserved c =
    rw (add-one, take-suc c.args.words.now c.loop-word.word-index none (omega arith))
    (elim c.match-parts.branch [
      | in-Some+in_ok-insert w ↦ rw w.sorted-is (put _ c.loop-word.invariant
          w.in-Some.from w.in-Some.to
          w.in-Some.ensures.0 w.in-Some.ensures.1 w.in-Some.ensures.2
          w.in_ok-insert.ensures.was_ordered
          w.in_ok-insert.ensures.entries)
      | in_default w ↦ rw w.sorted-is (passed _ c.loop-word.invariant w.in_default.ensures)
    ])

pub loop-place-init : goal.loop-place-init
loop-place-init c = record {
  ordered = search rules;
  long = rw c.in_ok-inner.ensures.items refl;
  nested = record { known = omega arith; past = λ i d lt. absurd (omega (arith, lt)) };
}

pub past_last-past-requires-clause-before : goal.past_last-past-requires-clause-before
past_last-past-requires-clause-before c = λ k d lo hi.
    let es = c.in_ok-last.last.items in
    rw (
      c.deref.ensures.value,
      c.index.ensures,
      get_or_default es k d c.index.result.now (omega (arith, hi, c.loop-place-test.true)),
    ) (rising es c.loop-place.invariant.ordered k c.loop-place.place c.index.result.now
    (omega (arith, hi)) (omega arith))

pub loop-place-preserved : goal.loop-place-preserved
loop-place-preserved c =
    let past = rw (c.deref.ensures.value, c.index.ensures) at c.past_last-past.ensures in
    let was = c.loop-place.invariant in
    rw c.in_ok-push.ensures.items (record {
      ordered = was.ordered;
      long = omega (arith, was.long, length_push c.loop-place.inner.items c.past_last-past.result);
      nested = nested-more _ was.nested was.long (omega arith) past;
    })

pub invariant_of-result-clause-ordered : goal.invariant_of-result-clause-ordered
invariant_of-result-clause-ordered c = c.loop-place.invariant.ordered

pub invariant_of-result-clause-nested : goal.invariant_of-result-clause-nested
invariant_of-result-clause-nested c =
    let whole : c.loop-place.place ≡ length c.in_ok-last.last.items =
    omega (arith, c.loop-place-test.false, c.loop-place.auto.place-end, c.len-place-end.ensures) in
    rw whole at c.loop-place.invariant.nested
