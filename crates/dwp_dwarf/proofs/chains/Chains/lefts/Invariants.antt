use Rattle.dwp_dwarf.proofs.Terms.{length}
use Rattle.dwp_dwarf.proofs.chains.Chains.lefts.Given as goal

abbrev pub decreases-loop-lefts : goal.decreases-loop-lefts
decreases-loop-lefts g l = length (g.R.Reader.input l.at).bytes
