use Rattle.std.proofs.Common.{arith, refl, sym, ◌+◌, ◌-◌, ◌∙◌, ◌≡◌}
use Rattle.dwp_index.proofs.UnitBytes.{split_encoding}
use Rattle.dwp_index.proofs.unit.encoding_in.Goals as goal

pub returns-then-body-eq8 : goal.returns-then-body-eq8
returns-then-body-eq8 c =
    let n = c.read_u32-length.result in
    let count : 4 + n - 4 ≡ n = omega arith in
    split_encoding c.args.order c.args.place c.args.bytes.now _ n (sym c.read_u32-length.ensures)
    (omega arith) (omega arith) (omega (arith, c.from.ensures)) (rw count refl)
    (sym c.read_u16.ensures ∙ c.if-read_u16-eq5.true) c.if-body-eq5.true c.if-body-eq8.true
