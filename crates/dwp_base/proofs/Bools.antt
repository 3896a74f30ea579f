-- What is known of truth values from what they make.
use Rattle.std.proofs.Common.{◌≡◌, Bool, true, false, ◌&&◌, ◌||◌, not, refl}

pub both : (a b : Bool) → (a && b) ≡ true → (a ≡ true) × (b ≡ true)
both true b e = (refl, e)
both false b e = absurd cc

pub neither : (a b : Bool) → (a || b) ≡ false → (a ≡ false) × (b ≡ false)
neither true b e = absurd cc
neither false b e = (refl, e)

pub or-right : (a b : Bool) → b ≡ true → (a || b) ≡ true
or-right true b e = refl
or-right false b e = e

pub is-false : (b : Bool) → not b ≡ true → b ≡ false
is-false true e = absurd cc
is-false false e = refl

-- by whether it is true
pub by-bool : (P : Type 0) (b : Bool) → (b ≡ true → P) → (b ≡ false → P) → P
by-bool P true left right = left refl
by-bool P false left right = right refl
