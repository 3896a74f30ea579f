use Rattle.dwp_archive.proofs.Decimals.{decimal_step, digit_small, digits_fit, digits_grow, stops}
use Rattle.std.proofs.Common.{ap, arith, drop, get_or, sym, ℕ, ◌*◌, ◌+◌, ◌-◌, ◌==◌, ◌∙◌}
use Rattle.{dwp_archive.specs.Headers.decimal_from, std.specs.List.list_all}
use Rattle.dwp_archive.proofs.reading.decimal.Goals as goal

pub returns-then-not-is_ascii_digit-2 : goal.returns-then-not-is_ascii_digit-2
returns-then-not-is_ascii_digit-2 c =
    c.then_some.ensures ∙ stops _ _ _ _ _ c.loop-i-test.true
    (sym c.is_ascii_digit-in-loop-i.ensures.value ∙ c.if-not-is_ascii_digit-2.true)
    (c.is_blank.ensures ∙ ap (list_all (λ (b : ℕ). b == 32)) c.split_at.ensures.back)
    c.loop-i.invariant.value

pub overflow_mul-n : goal.overflow_mul-n
overflow_mul-n c =
    let fit = digits_fit c.loop-i.n c.loop-i.i 0 c.loop-i.invariant.small (omega arith)
    (omega arith) in omega arith

pub overflow_add-n : goal.overflow_add-n
overflow_add-n c =
    let byte = get_or c.args.field.now c.loop-i.i 0 in
    let small = digit_small byte
    (sym c.is_ascii_digit-in-loop-i.ensures.value ∙ c.if-not-is_ascii_digit-2.false) in
    let fit = digits_fit c.loop-i.n c.loop-i.i (byte - 48) c.loop-i.invariant.small (omega arith)
    small in omega arith

pub loop-i-preserved : goal.loop-i-preserved
loop-i-preserved c =
    let byte = get_or c.args.field.now c.loop-i.i 0 in
    let digit = sym c.is_ascii_digit-in-loop-i.ensures.value ∙ c.if-not-is_ascii_digit-2.false in
    let next = ap (λ (d : ℕ). decimal_from (10 * c.loop-i.n + d)
    (drop (c.loop-i.i + 1) c.args.field.now)) c.from.ensures in
    let grown = digits_grow c.loop-i.n c.loop-i.i (byte - 48) c.loop-i.invariant.small
    (digit_small byte digit) in
    record {
      value = next
          ∙ sym (decimal_step c.args.field.now c.loop-i.n c.loop-i.i c.loop-i-test.true digit)
          ∙ c.loop-i.invariant.value;
      small = omega (arith, grown, c.from.ensures);
    }
