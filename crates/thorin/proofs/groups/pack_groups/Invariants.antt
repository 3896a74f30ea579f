use Rattle.thorin.specs.Groups.{ArePackedAlone, bytes_in, groups_in}
use Rattle.thorin_join.proofs.Terms.{take}
use Rattle.thorin.proofs.groups.pack_groups.Given as goal

-- the groups so far were packed
abbrev pub invariant-loop-group : goal.invariant-loop-group
invariant-loop-group g l = ArePackedAlone (groups_in (take l.group-index l.groups))
    (bytes_in l.packages.items)
