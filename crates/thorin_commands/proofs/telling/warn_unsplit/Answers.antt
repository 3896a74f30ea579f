use Rattle.std.proofs.Common.{arith, refl, rules, true, ◌≡◌}
use Rattle.thorin_commands.proofs.Warned.{none_printed, unsplit_next}
use Rattle.std.proofs.lemmas.List.{take_all}
use Rattle.thorin_commands.proofs.telling.warn_unsplit.Goals as goal

pub loop-i-init : goal.loop-i-init
loop-i-init g c = none_printed _ refl

pub loop-i-preserved : goal.loop-i-preserved
loop-i-preserved g c = unsplit_next _ c.args.list.now c.args.lacks.now c.loop-i.i _ _ _ _ _
    c.loop-i-test.true c.requires c.loop-i.invariant c.in_ok-warn_for.ensures.line

pub returns-clause-lines : goal.returns-clause-lines
returns-clause-lines g c =
    let warns : c.args.options.warns ≡ true = search rules in
    rw warns (rw (
      take_all c.loop-i.i c.args.list.now c.loop-i-test.false,
      take_all c.loop-i.i c.args.lacks.now (omega arith),
      c.unit_count-count.ensures,
    ) at
    c.loop-i.invariant)
