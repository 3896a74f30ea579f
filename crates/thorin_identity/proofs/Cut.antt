-- What is left of a reader's bytes when it is cut.
use Rattle.dwp_bytes.specs.Input.{Input, skip_at, truncate_at}
use Rattle.std.proofs.Common.{arith, drop, false, is_err, Result, take, take_all, true, [], ℕ, ◌≡◌}
use Rattle.std.proofs.lemmas.{Bool.Decides.nat_tests, List.drop_all}
use Rattle.{dwp_base.specs.Reading.Reads, dwp_bytes.specs.declared.error.ReadError.ReadError}

-- an end past the end leaves all
pub cut : (r : Result (Unit {0}) ReadError) (i j : Input) (n : ℕ)
    → Reads (λ x. x) r i j (truncate_at n) → j.bytes ≡ take n i.bytes
unfolding truncate_at
cut r i j n h = grind (arith, nat_tests, take_all n i.bytes)

pub passed_over : (r : Result (Unit {0}) ReadError) (i j : Input) (n : ℕ)
    → Reads (λ x. x) r i j (skip_at n) → is_err r ≡ false → j.bytes ≡ drop n i.bytes
unfolding skip_at
passed_over r i j n h e = grind (arith, nat_tests)

-- a start past the end leaves nothing
pub none_left : (r : Result (Unit {0}) ReadError) (i j : Input) (n : ℕ)
    → Reads (λ x. x) r i j (skip_at n) → is_err r ≡ true → drop n i.bytes ≡ []
unfolding skip_at
none_left r i j n h e = grind (arith, nat_tests, drop_all n i.bytes)
