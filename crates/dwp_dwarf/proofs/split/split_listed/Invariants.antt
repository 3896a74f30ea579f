use Rattle.dwp_dwarf.proofs.Terms.{attributes, attributes_of, drop, map, split_in, ◌≡◌}
use Rattle.dwp_dwarf.proofs.{Terms.specification_of, Values.joined_rest}
use Rattle.dwp_dwarf.proofs.split.split_listed.Given as goal

-- those found and those left have the meaning of all
abbrev pub invariant-loop-specification : goal.invariant-loop-specification
invariant-loop-specification g l =
    joined_rest l.encoding.format (attributes_of g.R.Reader.input l.found)
    (attributes l.encoding (map specification_of (drop l.specification-index l.list))
    (g.R.Reader.input l.values)) ≡ split_in l.fn.encoding.format
    (attributes l.fn.encoding (map specification_of l.fn.list) (g.R.Reader.input l.fn.values))
