-- What the fields of a `ContributionAdjustor` hold.
use Rattle.std.specs.Option.{option_copied}
use Rattle.thorin_input.specs.declared.source.ContributionAdjustor.TheInside.{Inside}
use Rattle.thorin_input.specs.Adjusting.{Adjustor}

abbrev pub indexes_in : Inside → Adjustor
indexes_in a = record {
  compilation = option_copied a.cu_index;
  types = option_copied a.tu_index;
  section = a.section;
}
