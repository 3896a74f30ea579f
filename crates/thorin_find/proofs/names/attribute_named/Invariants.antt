use Rattle.std.proofs.Common.{◌≡◌}
use Rattle.{dwp_dwarf.specs.Attributes.attributes_left, thorin_find.specs.Names.named}
use Rattle.thorin_find.proofs.names.attribute_named.Given as goal

-- the first of those that are left is the first of all
abbrev pub invariant-loop-attribute : goal.invariant-loop-attribute
invariant-loop-attribute g l =
    named l.name (attributes_left g.R.Reader.input l.attribute-iterator)
    ≡ named l.name (attributes_left g.R.Reader.input l.fn.attributes)
