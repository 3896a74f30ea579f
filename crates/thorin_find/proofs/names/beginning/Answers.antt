use Rattle.dwp_bytes.specs.{declared.error.ReadError.ReadError, Input.Input, Input.truncate_at}
use Rattle.{dwp_bytes.specs.Input.front, std.proofs.lemmas.Bool.Decides.nat_tests}
use Rattle.std.proofs.Common.{arith, Err, take_all, ℕ, ◌≡◌}
use Rattle.thorin_find.proofs.names.beginning.Goals as goal

-- what has fewer bytes is its own beginning
kept_whole : (n : ℕ) (i j : Input) (e : ReadError) → truncate_at n i ≡ Err e → j ≡ i → j ≡ front n i
unfolding truncate_at
kept_whole n i j e short_of same = grind (arith, nat_tests, take_all)

pub returns-in-Err : goal.returns-in-Err
returns-in-Err g c = kept_whole 16384 _ _ _ c.in-Err.ensures.0 c.in-Err.ensures.1
