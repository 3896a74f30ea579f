-- What a package that is made stands for.
use Rattle.std.specs.Prelude.{map, Option, Some, None}
use Rattle.thorin_builder.specs.declared.in_progress.InProgressDwarfPackage.{InProgressDwarfPackage}
use Rattle.thorin_builder.specs.declared.state.Mark.{Mark}
use Rattle.thorin_join.specs.State.{InProgress, Amount}

abbrev pub in_progress_of : InProgressDwarfPackage → InProgress
in_progress_of p = record {
  file = p.object;
  strings = p.strings;
  rows = p.rows;
  differing = map (λ s. s.0) p.differing.items;
}

abbrev pub amount_in : Mark → Amount
amount_in m = record {
  lengths = m.lengths.items;
  strings = m.strings.strings;
  rows = m.rows;
  differing = m.differing;
}

-- the package, where an input has begun one
abbrev pub begun_of : Option InProgressDwarfPackage → Option InProgress
begun_of None = None
begun_of (Some p) = Some (in_progress_of p)
