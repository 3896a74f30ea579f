-- Where the string at the front of some bytes ends.
use Rattle.std.specs.Prelude.{◌≡◌, ◌≢◌, ℕ, ◌*◌, ◌<◌, ◌≤◌, List, length, slice_index}

-- the first zero is there
pub record IsFirstZero (bytes : List ℕ) (end : ℕ) : Type 0 where
  pub within : end < length bytes
  pub ended : slice_index bytes end ≡ 0
  pub before : (k : ℕ) → k < end → slice_index bytes k ≢ 0

-- the place is within the first whole steps of 64 bytes, at most so many of them
pub record IsNear (bytes : List ℕ) (rounds end : ℕ) : Type 0 where
  pub steps : ℕ
  pub few : steps ≤ rounds
  pub within : steps * 64 ≤ length bytes
  pub before : end < steps * 64

-- a byte is the same in a copy
abbrev pub IsCopied : List ℕ → List ℕ → ℕ → Type 0
IsCopied bytes copy k = slice_index copy k ≡ slice_index bytes k
