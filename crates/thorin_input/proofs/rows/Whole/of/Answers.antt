use Rattle.std.proofs.Common.{ap, map, rules}
use Rattle.thorin_input.{proofs.RowContributions.whole-row, specs.Rows.whole_row}
use Rattle.{thorin_index.specs.declared.entry.IndexEntry.IndexEntry, thorin_input.specs.View.part}
use Rattle.thorin_input.proofs.rows.Whole.of.Goals as goal

pub invariant_of-result : goal.invariant_of-result
unfolding whole_row
invariant_of-result c =
    let is = whole-row c.args.encoding c.args.file.now.contents (map part c.args.parts.now)
    c.in_ok-ranges.ranges (λ kind. let at = c.in_ok-ranges.ensures.1 kind in
    let read = at.2 in (at.0, at.1, search rules, search rules))
    c.by_kind-row.result c.by_kind-row.ensures in
    record {
      fits = is.1;
      no_info = ap (λ (r : IndexEntry). r.debug_info) is.0;
      no_types = ap (λ (r : IndexEntry). r.debug_types) is.0;
    }

pub returns-clause-row : goal.returns-clause-row
returns-clause-row c = (whole-row c.args.encoding c.args.file.now.contents (map part
    c.args.parts.now) c.in_ok-ranges.ranges (λ kind. let at = c.in_ok-ranges.ensures.1 kind in
    let read = at.2 in (at.0, at.1, search rules, search rules))
    c.by_kind-row.result c.by_kind-row.ensures).0
