use Rattle.dwp_dwarf.proofs.Terms.{attributes, drop, first_number, map, specification_of, ◌≡◌}
use Rattle.dwp_dwarf.proofs.needed.number_listed.Given as goal

-- the first number of those that are left is the first of all
abbrev pub invariant-loop-specification : goal.invariant-loop-specification
invariant-loop-specification g l = first_number l.name (attributes l.encoding (map specification_of
    (drop l.specification-index l.list)) (g.R.Reader.input l.values)) ≡ first_number l.fn.name
    (attributes l.fn.encoding (map specification_of l.fn.list) (g.R.Reader.input l.fn.values))
