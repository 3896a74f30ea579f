use Rattle.dwp_dwarf.proofs.Terms
use Terms.{◌++◌, length, map, needed, none_met, pairs_in, specification_of, ◌≡◌}
use Rattle.dwp_dwarf.proofs.needed.list_needed.Given as goal

-- those that are listed and those that are left are all
abbrev pub invariant-loop-specification : goal.invariant-loop-specification
invariant-loop-specification g l = map specification_of l.list.items
    ++ needed l.unmet (pairs_in (g.R.Reader.input l.specifications))
    ≡ needed none_met (pairs_in (g.R.Reader.input l.fn.specifications))

abbrev pub decreases-loop-specification : goal.decreases-loop-specification
decreases-loop-specification g l = length (pairs_in (g.R.Reader.input l.specifications))
