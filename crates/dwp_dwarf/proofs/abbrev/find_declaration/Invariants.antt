use Rattle.dwp_dwarf.proofs.Terms.{declaration, length, ◌≡◌}
use Rattle.dwp_dwarf.proofs.abbrev.find_declaration.Given as goal

-- the first declaration in what is left is the first one in all
abbrev pub invariant-loop-found : goal.invariant-loop-found
invariant-loop-found g l = declaration l.code (g.R.Reader.input l.rest) ≡ declaration l.code
    (g.R.Reader.input l.initial.rest)

abbrev pub decreases-loop-found : goal.decreases-loop-found
decreases-loop-found g l = length (g.R.Reader.input l.rest).bytes
