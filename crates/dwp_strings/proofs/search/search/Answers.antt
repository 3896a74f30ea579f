use Rattle.{dwp_strings.proofs.Hashed.known_offset_in, std.proofs.lemmas.Map.Lookups.exact_bytes}
use Rattle.dwp_strings.proofs.Named.{before_more, behind_more, halved_more}
use Rattle.std.proofs.Common.{arith, sym, ◌∙◌}
use Rattle.dwp_strings.proofs.search.search.Goals as goal

pub overflow_add-compared : goal.overflow_add-compared
overflow_add-compared c = grind (arith, c.loop-low.invariant.halved 64)

pub loop-low-preserved-in-Less : goal.loop-low-preserved-in-Less
loop-low-preserved-in-Less c = record {
  ordered = omega arith;
  within = omega arith;
  halved = halved_more _ _ _ _ c.loop-low.invariant.halved (omega arith) (omega arith);
  before = grind (arith, before_more c.args.bytes.now c.args.positions.now c.args.string.now);
  behind = c.loop-low.invariant.behind;
}

pub loop-low-preserved : goal.loop-low-preserved
loop-low-preserved c = record {
  ordered = omega arith;
  within = omega arith;
  halved = halved_more _ _ _ _ c.loop-low.invariant.halved (omega arith) (omega arith);
  before = c.loop-low.invariant.before;
  behind = grind (arith, behind_more c.args.bytes.now c.args.positions.now c.args.string.now);
}

pub compare_at-requires-clause-within : goal.compare_at-requires-clause-within
compare_at-requires-clause-within c =
    grind (arith, c.requires.table.begun, c.get_near-position.ensures)

pub returns-in-Equal-clause-found : goal.returns-in-Equal-clause-found
returns-in-Equal-clause-found c = known_offset_in _ _ c.args.string.now _ c.requires.table
    (rw c.get_near-position.ensures (c.requires.table.begun _ 0 (omega arith)))
    (exact_bytes _ _ (sym c.compare_at.ensures ∙ c.in-Equal.is))
