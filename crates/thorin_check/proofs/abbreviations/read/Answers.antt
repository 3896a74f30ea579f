use Rattle.dwp_base.specs.declared.section.SectionKind.TheVariants.{Abbrev}
use Rattle.{std.proofs.Common.None, std.proofs.Common.Some}
use Rattle.thorin_check.proofs.Packages.{lies_in, own_read}
use Rattle.thorin_check.proofs.abbreviations.read.Goals as goal

pub read_behind-requires : goal.read_behind-requires
read_behind-requires c = record {
  inside = rw c.requires.tables
      (lies_in c.args.pack.now c.args.object c.args.unit.now c.requires.is_found Abbrev);
}

pub returns-in-Ok-clause-own : goal.returns-in-Ok-clause-own
returns-in-Ok-clause-own c =
    rw (own_read c.args.pack.now c.args.object c.args.unit.now c.requires.is_found _ _
    (Some _) c.requires.tables c.order.ensures.order c.in-Ok.ensures) at c.read_behind.ensures.own

pub returns-in_ok-format-in-Err-clause-own : goal.returns-in_ok-format-in-Err-clause-own
returns-in_ok-format-in-Err-clause-own c =
    own_read c.args.pack.now c.args.object c.args.unit.now c.requires.is_found _ _ None
    c.requires.tables c.order.ensures.order c.in-Err.ensures
