use Rattle.{std.proofs.lemmas.List.Sums.common_prefix_len-le, thorin_inputs.proofs.Fronts.alike}
use Rattle.std.proofs.lemmas.List.Sums.{common_prefix_len-drop_no, common_prefix_len-drop_yes}
use Rattle.std.proofs.lemmas.{Bool.Decides.nat_tests, Grind.common_steps}
use Rattle.std.proofs.Common.{arith, drop, ◌==◌}
use Rattle.thorin_inputs.proofs.prefixes.common_length.Goals as goal

pub loop-i-preserved : goal.loop-i-preserved
loop-i-preserved c = grind (
  arith,
  nat_tests,
  common_prefix_len-drop_yes (λ x y. x == y) c.args.a.now c.args.b.now c.loop-i.i 0 0,
)

pub returns-then-a-i : goal.returns-then-a-i
returns-then-a-i c = grind (
  arith,
  nat_tests,
  alike c.args.a.now c.args.b.now,
  common_prefix_len-drop_no (λ x y. x == y) c.args.a.now c.args.b.now c.loop-i.i 0 0,
)

pub returns : goal.returns
returns c =
    let none = common_prefix_len-le (λ x y. x == y) (drop c.loop-i.i c.args.a.now)
    (drop c.loop-i.i c.args.b.now) in
    grind (arith, common_steps, none, alike c.args.a.now c.args.b.now)
