use Rattle.std.proofs.Common.{◌≡◌, ◌++◌, map}
use Rattle.dwp_index.specs.Entries.{units_left}
use Rattle.thorin_c.specs.Listing.{counted, name_of, written_over}
use Rattle.thorin_c.proofs.listing.list.Given as goal

-- those so far are counted and written
abbrev pub invariant-loop-entry : goal.invariant-loop-entry
invariant-loop-entry l = record {
  left : l.yielded ++ units_left l.entry-iterator ≡ units_left l.initial.entry-iterator;
  count : l.count ≡ counted (map name_of l.yielded);
  names : l.names ≡ written_over l.initial.names (map name_of l.yielded);
}
