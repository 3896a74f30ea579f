use Rattle.dwp_strings.{proofs.Hashed.ArePassed, specs.Places.home}
use Rattle.dwp_strings.proofs.places.find.Given as goal

abbrev pub invariant-loop-number : goal.invariant-loop-number
invariant-loop-number l = ArePassed l.slots (home l.size l.hash) l.number l.hash
