use Rattle.dwp_bytes.proofs.Reading.{cast_less, cast_lowest, fits, signed_more, sleb_big}
use Rattle.dwp_bytes.proofs.Reading.{sleb_fails, sleb_high, sleb_low}
use Rattle.std.proofs.lemmas.{Int.ints, Result.err_from_is_err_and}
use Rattle.std.proofs.Common.{ap, arith, ◌*◌, ◌-◌, ◌<◌, ◌^◌, ◌≡◌}
use Rattle.dwp_bytes.proofs.reader.Reader.read_sleb128.Goals as goal

pub returns-in_err-byte : goal.returns-in_err-byte
returns-in_err-byte g c =
    let p = err_from_is_err_and c.from_residual.result c.from_residual.ensures.1 in
    let fails = sleb_fails c.loop.invariant.1 (omega arith) c.in_err-byte.ensures.0 in
    rw (p.1, p.2) (fails, ap g.Self.Reader.input c.loop.invariant.0)

pub returns-then-byte-lt64 : goal.returns-then-byte-lt64
returns-then-byte-lt64 g c =
    let m = fits c.loop.invariant.1 c.in_ok-byte.byte c.loop-test.true (omega arith) in
    rw c.from.ensures (sleb_low c.loop.invariant.1 (omega arith) c.in_ok-byte.ensures
    c.if-byte-lt64.true m
    (omega (arith, ints, m)))

pub returns-then-byte-lt128 : goal.returns-then-byte-lt128
returns-then-byte-lt128 g c =
    let m = fits c.loop.invariant.1 (128 - c.in_ok-byte.byte) c.loop-test.true (omega arith) in
    let low : c.loop.value < 2 ^ 63 = omega (arith, m) in
    rw c.from-then-byte-lt128.ensures (sleb_high c.loop.invariant.1 (omega arith)
    c.in_ok-byte.ensures c.if-byte-lt64.false c.if-byte-lt128.true low (omega (arith, m))
    (cast_less c.loop.value ((128 - c.in_ok-byte.byte) * c.loop.scale) low (omega (arith, m))))

pub loop-preserved : goal.loop-preserved
loop-preserved g c = (
  c.loop.invariant.0,
  rw c.from-in-loop.ensures (signed_more c.loop.invariant.1
      c.loop-test.true c.in_ok-byte.ensures (omega arith) (omega arith)),
)

pub returns-in_err-read_u8 : goal.returns-in_err-read_u8
returns-in_err-read_u8 g c =
    let p = err_from_is_err_and c.from_residual-in_err-read_u8.result
    c.from_residual-in_err-read_u8.ensures.1 in
    let fails = sleb_fails c.loop.invariant.1 (omega arith) c.in_err-read_u8.ensures.0 in
    rw (p.1, p.2) (fails, ap g.Self.Reader.input c.loop.invariant.0)

pub returns-in_default : goal.returns-in_default
returns-in_default g c =
    let far = c.loop.invariant.1 in
    let big = sleb_big far (omega arith) c.in_ok-read_u8.ensures (omega arith) (omega arith) in
    (big, ap g.Self.Reader.input c.loop.invariant.0)

pub returns-in-0 : goal.returns-in-0
returns-in-0 g c =
    let nine : c.loop.counter ≡ 9 = omega arith in
    let far = rw nine at c.loop.invariant.1 in
    let none : c.in_ok-read_u8.field-0 * c.loop.scale ≡ 0 = rw c.in-0.is (omega arith) in
    sleb_low far (omega arith) c.in_ok-read_u8.ensures (omega arith)
    (omega (arith, none, far.scaled, far.below))
    (omega (arith, ints, none, far.scaled, far.below))

pub returns-in-127 : goal.returns-in-127
returns-in-127 g c =
    let nine : c.loop.counter ≡ 9 = omega arith in
    let far = rw nine at c.loop.invariant.1 in
    let last : (128 - c.in_ok-read_u8.field-0) * c.loop.scale ≡ 2 ^ 63 =
    rw c.in-127.is (omega (arith, far.scaled)) in
    let fits : c.loop.value < 2 ^ 63 = omega (arith, far.scaled, far.below) in
    sleb_high far (omega arith) c.in_ok-read_u8.ensures (omega arith) (omega arith) fits
    (omega (arith, last)) (cast_lowest c.loop.value _ fits last)

pub overflow_mul-result : goal.overflow_mul-result
overflow_mul-result g c =
    omega (arith, fits c.loop.invariant.1 c.from.result c.loop-test.true (omega arith))

pub overflow_add-result : goal.overflow_add-result
overflow_add-result g c =
    omega (arith, fits c.loop.invariant.1 c.from.result c.loop-test.true (omega arith))

pub overflow_mul-result-then-byte-lt128 : goal.overflow_mul-result-then-byte-lt128
overflow_mul-result-then-byte-lt128 g c =
    let m = fits c.loop.invariant.1 c.from-then-byte-lt128.result c.loop-test.true (omega arith) in
    omega (arith, m)

pub overflow_sub-result : goal.overflow_sub-result
overflow_sub-result g c =
    let m = fits c.loop.invariant.1 c.from-then-byte-lt128.result c.loop-test.true (omega arith) in
    omega (arith, ints, m)

pub overflow_mul-value : goal.overflow_mul-value
overflow_mul-value g c =
    omega (arith, fits c.loop.invariant.1 c.from-in-loop.result c.loop-test.true (omega arith))

pub overflow_add-value : goal.overflow_add-value
overflow_add-value g c =
    omega (arith, fits c.loop.invariant.1 c.from-in-loop.result c.loop-test.true (omega arith))

pub overflow_mul-scale : goal.overflow_mul-scale
overflow_mul-scale g c = omega (arith, fits c.loop.invariant.1 127 c.loop-test.true (omega arith))
