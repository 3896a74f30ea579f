use Rattle.dwp_index.{proofs.Indexes.says_some, specs.Places.NO_COLUMN}
use Rattle.std.proofs.Common.{arith, sym}
use Rattle.dwp_index.proofs.unit_index.Row.range.Goals as goal

pub read_u32_at-size-requires : goal.read_u32_at-size-requires
read_u32_at-size-requires c =
    let says = says_some _ _ _ _ (c.self.invariant.places c.args.kind)
    (sym (c.get-place.ensures.value NO_COLUMN)) c.if-place.false in
    omega (arith, says.1, c.self.invariant.sizes)

pub read_u32_at-requires : goal.read_u32_at-requires
read_u32_at-requires c =
    let says = says_some _ _ _ _ (c.self.invariant.places c.args.kind)
    (sym (c.get-place.ensures.value NO_COLUMN)) c.if-place.false in
    omega (arith, says.1, c.self.invariant.offsets)
