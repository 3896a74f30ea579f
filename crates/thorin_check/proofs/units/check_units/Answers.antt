use Rattle.thorin_check.proofs.Told.{exit_is, seen_next, stopped_behind, text_seen, text_told}
use Rattle.thorin_check.proofs.Told.{then_or, told_all, units_apart, units_then}
use Rattle.{std.proofs.Common.Err, thorin_check.specs.Faults.TellsUnit}
use Rattle.thorin_check.proofs.units.check_units.Goals as goal

pub loop-i-preserved : goal.loop-i-preserved
loop-i-preserved g c =
    let text = c.text_of-text.ensures in
    let seen = text_seen _ _ _ _ _ _ _ text.text text.on text.gathered c.in_ok-tell.ensures in
    record {
      told = seen_next _ _ _ seen.0.kept _ c.loop-i.i _ c.loop-i-test.true
          c.loop-i.invariant.told seen.1;
      seen = seen.0.seen;
    }

pub returns-in_err-tell : goal.returns-in_err-tell
returns-in_err-tell g c =
    rw (exit_is c.from_residual.ensures.1) (stopped_behind _ c.loop-i.invariant.told
    (text_told (TellsUnit _ _) _ _ _ _ (Err _) c.text_of-text.ensures.text c.in_err-tell.ensures))

pub returns : goal.returns
returns g c =
    then_or _ _ _ _ _ _ _ (units_then _ _ _) c.check_strings.result (units_apart _ _ _ _ c.requires
    c.if-overlaps-faults.false (told_all _ c.args.indexed.entries.now c.loop-i.i c.loop-i-test.false
    c.loop-i.invariant.told)) c.check_strings.ensures
