use Rattle.{std.proofs.Common.arith, std.proofs.Common.◌≡◌, thorin_index.proofs.Held.same_entries}
use Rattle.thorin_index.proofs.rows.same_entry.Goals as goal

pub returns-then-eq : goal.returns-then-eq
returns-then-eq c is =
    let encoding : c.args.a.now.encoding ≡ c.args.b.now.encoding =
    grind (arith, c.if-eq.ensures) in
    let unit : c.args.a.now.id ≡ c.args.b.now.id = grind (arith, c.eq-then-eq.ensures) in
    same_entries c.args.a.now c.args.b.now encoding unit
    (λ k less. c.loop-kind.invariant k (omega (arith, c.loop-kind-test.false)))
