use Rattle.dwp_bytes.proofs.Reading.{fits, last_fits, more, uleb_big, uleb_ends, uleb_fails}
use Rattle.std.proofs.{Common.ap, Common.arith, lemmas.Result.err_from_is_err_and}
use Rattle.dwp_bytes.proofs.reader.Reader.read_uleb128.Goals as goal

pub returns-in_err-byte : goal.returns-in_err-byte
returns-in_err-byte g c =
    let p = err_from_is_err_and c.from_residual.result c.from_residual.ensures.1 in
    let fails = uleb_fails c.loop.invariant.1 (omega arith) c.in_err-byte.ensures.0 in
    rw (p.1, p.2) (fails, ap g.Self.Reader.input c.loop.invariant.0)

pub returns-then-byte-lt128 : goal.returns-then-byte-lt128
returns-then-byte-lt128 g c =
    let m = fits c.loop.invariant.1 c.in_ok-byte.byte c.loop-test.true (omega arith) in
    rw c.from.ensures (uleb_ends c.loop.invariant.1 (omega arith) c.in_ok-byte.ensures (omega arith)
    (omega (arith, m)))

pub loop-preserved : goal.loop-preserved
loop-preserved g c = (
  c.loop.invariant.0,
  rw c.from-in-loop.ensures (more c.loop.invariant.1
      c.loop-test.true c.in_ok-byte.ensures (omega arith) (omega arith)),
)

pub returns-in_err-last : goal.returns-in_err-last
returns-in_err-last g c =
    let p = err_from_is_err_and c.from_residual-in_err-last.result
    c.from_residual-in_err-last.ensures.1 in
    let fails = uleb_fails c.loop.invariant.1 (omega arith) c.in_err-last.ensures.0 in
    rw (p.1, p.2) (fails, ap g.Self.Reader.input c.loop.invariant.0)

pub returns-then-last-gt1 : goal.returns-then-last-gt1
returns-then-last-gt1 g c =
    let big = uleb_big c.loop.invariant.1 (omega arith) c.in_ok-last.ensures c.if-last-gt1.true in
    (big, ap g.Self.Reader.input c.loop.invariant.0)

pub returns : goal.returns
returns g c =
    rw c.from-2.ensures (uleb_ends c.loop.invariant.1 (omega arith)
    c.in_ok-last.ensures (omega arith)
    (last_fits c.loop.invariant.1 c.in_ok-last.last (omega arith) (omega arith)))
