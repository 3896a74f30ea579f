use Rattle.dwp_dwarf.proofs.Terms.{RemembersPlaces, vec_len, ◌≡◌}
use Rattle.dwp_dwarf.proofs.chains.Chains.learn_table.Given as goal

-- what is remembered stays right, and no list changes
abbrev pub invariant-loop-next : goal.invariant-loop-next
invariant-loop-next g l = (RemembersPlaces (g.R.Reader.input l.section) l.initial.self
    → RemembersPlaces (g.R.Reader.input l.section) l.self) × (l.self.lists ≡ l.initial.self.lists)

abbrev pub decreases-loop-next : goal.decreases-loop-next
decreases-loop-next g l = vec_len l.lefts
