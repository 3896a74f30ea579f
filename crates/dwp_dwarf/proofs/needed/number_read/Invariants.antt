use Rattle.dwp_dwarf.proofs.Terms.{attributes_left, first_number, ◌≡◌}
use Rattle.dwp_dwarf.proofs.needed.number_read.Given as goal

-- the first number of those that are left is the first of all
abbrev pub invariant-loop-attribute : goal.invariant-loop-attribute
invariant-loop-attribute g l =
    first_number l.name (attributes_left g.R.Reader.input l.attribute-iterator)
    ≡ first_number l.name (attributes_left g.R.Reader.input l.fn.entry.attributes)
