use Rattle.dwp_dwarf.proofs.Terms.{attributes_left, attributes_of, entry_of, split_in, ◌≡◌}
use Rattle.dwp_dwarf.proofs.Values.{joined_rest}
use Rattle.dwp_dwarf.proofs.split.split_read.Given as goal

-- those found and those left have the meaning of all
abbrev pub invariant-loop-attribute : goal.invariant-loop-attribute
invariant-loop-attribute g l =
    joined_rest l.format (attributes_of g.R.Reader.input l.found) (attributes_left g.R.Reader.input
    l.attribute-iterator) ≡ split_in l.fn.format (entry_of g.R.Reader.input l.fn.entry).attributes
