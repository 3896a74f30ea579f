use Rattle.dwp_dwarf.proofs.Terms.{length, past_specifications, ◌≡◌}
use Rattle.dwp_dwarf.proofs.abbrev.after_specifications.Given as goal

-- what is left of the list ends where all of it does
abbrev pub invariant-loop-specification : goal.invariant-loop-specification
invariant-loop-specification g l = past_specifications (g.R.Reader.input l.at) ≡ past_specifications
    (g.R.Reader.input l.fn.at)

abbrev pub decreases-loop-specification : goal.decreases-loop-specification
decreases-loop-specification g l = length (g.R.Reader.input l.at).bytes
