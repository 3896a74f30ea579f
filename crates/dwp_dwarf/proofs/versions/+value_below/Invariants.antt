use Rattle.dwp_dwarf.proofs.versions.+value_below.Given as goal

abbrev pub decreases-value_below : goal.decreases-value_below
decreases-value_below l = l.levels
