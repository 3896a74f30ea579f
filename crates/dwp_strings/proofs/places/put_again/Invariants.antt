use Rattle.std.proofs.Common.{Some, get_or, ℕ, ◌-◌, ◌<◌, ◌≡◌, ◌≢◌}
use Rattle.dwp_strings.specs.Places.{free, place_of}
use Rattle.dwp_strings.proofs.places.put_again.Given as goal

abbrev pub invariant-loop-number : goal.invariant-loop-number
invariant-loop-number l = (j : ℕ) → j < l.number → (get_or l.others j free).behind ≢ 0
    → place_of l.slots l.size (get_or l.others j free).hash
    ≡ Some ((get_or l.others j free).behind - 1)
