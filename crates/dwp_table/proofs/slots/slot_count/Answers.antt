use Rattle.std.proofs.Common.{suc, inr, arith, pow-suc}
use Rattle.dwp_table.proofs.Numbers.{has_slots, is_power}
use Rattle.dwp_table.proofs.slots.slot_count.Goals as goal

pub loop-size-preserved : goal.loop-size-preserved
loop-size-preserved c = let k = c.loop-size.invariant.power in record {
  power = (suc k.0, omega (arith, k.1, pow-suc 2 (suc k.0)));
  least = inr (omega arith);
}

pub returns-clause-slots : goal.returns-clause-slots
returns-clause-slots c = let k = c.loop-size.invariant.power in has_slots c.args.units
    c.loop-size.size k.0 k.1 c.loop-size.invariant.least (omega arith)

pub returns-clause-power : goal.returns-clause-power
returns-clause-power c =
    let k = c.loop-size.invariant.power in rw k.1 (is_power (suc k.0))
