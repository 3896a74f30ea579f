use Rattle.std.proofs.lemmas.{Bool.false_from_ne_true, List.get_or_default, List.take_rest}
use Rattle.dwp_bytes.{proofs.Reading.zero_free, specs.StringOffsets.string_at}
use Rattle.std.proofs.Common.{arith, drop, eqb, le-ltb, length, refl, Some}
use Rattle.std.proofs.lemmas.List.Folds.{list_any_at, list_any_none}
use Rattle.dwp_base.proofs.Finds.{first_at}
use Rattle.dwp_bytes.proofs.encoding.string_at.Goals as goal

pub returns-in-Some-clause-meaning : goal.returns-in-Some-clause-meaning
unfolding string_at
returns-in-Some-clause-meaning c =
    let bytes = drop c.args.offset c.args.section.now in
    let rest = take_rest c.args.section.now c.args.offset in
    let found = rw rest at c.in-Some.ensures in
    let any = list_any_at (λ b. eqb b 0) bytes c.in-Some.end 0 found.0.high found.1 in
    let first = first_at 0 bytes (Some c.in-Some.end) found in
    rw (rest, le-ltb (length c.args.section.now) c.args.offset (omega arith), any, first) refl

pub returns-in-Some-clause-zero_free : goal.returns-in-Some-clause-zero_free
returns-in-Some-clause-zero_free c = zero_free _ c.in-Some.end c.in-Some.ensures

pub returns-in-None-clause-meaning : goal.returns-in-None-clause-meaning
unfolding string_at
returns-in-None-clause-meaning c =
    let bytes = drop c.args.offset c.args.section.now in
    let found = rw (take_rest c.args.section.now c.args.offset) at c.in-None.ensures in
    let none = list_any_none (λ b. eqb b 0) bytes (λ k d below.
    rw (get_or_default bytes k d 0 below) (false_from_ne_true _ (found k (omega arith) below))) in
    rw (le-ltb (length c.args.section.now) c.args.offset (omega arith), none) refl
