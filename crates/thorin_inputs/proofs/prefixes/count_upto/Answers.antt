use Rattle.thorin_inputs.{proofs.Fronts.parted, specs.Mapped.Entry, specs.Mapped.is_upto}
use Rattle.std.proofs.lemmas.List.Sorted.{IsPartitionPoint-from_clause}
use Rattle.std.proofs.Common.{of_calls, rules}
use Rattle.thorin_inputs.proofs.prefixes.count_upto.Goals as goal

pub returns-clause-point : goal.returns-clause-point
returns-clause-point c =
    IsPartitionPoint-from_clause (λ (e : Entry). is_upto e.0.now c.args.path.now) _ _
    c.partition_point.ensures.partitioned
    (parted c.args.last.now c.requires c.args.path.now) (λ a r q k. search (rules, of_calls))
