-- Places of strings by their hashes. A slot keeps a hash, which tells where its search begins.
use Rattle.std.specs.Prelude.{if◌then◌else◌, ◌%◌, ◌*◌, ◌+◌, ◌-◌, ◌/◌, ◌<◌, ◌==◌, ◌^◌, ◌≡◌, ◌≢◌, ◌≤◌}
use Rattle.std.specs.Prelude.{length, List, nat_le, None, Option, Some, suc, true, zero, ℕ, ◌⊎◌}
use Rattle.std.specs.Prelude.{bit_xor, slice_index_or}
use Rattle.std.specs.Hash.FoldHasher.{finish, folded_multiply, initial, mix, read_u64, write}
use Rattle.dwp_strings.specs.{declared.places.HashedPlaces.HashedPlaces, declared.places.Slot.Slot}

-- a state after a block of sixteen bytes: as std's, but that nothing changes the second word, which
-- isn't 0 in a string
abbrev pub after_block : List ℕ → ℕ → ℕ → ℕ
after_block s state at =
    folded_multiply (bit_xor (read_u64 s at) state) (read_u64 s (at + 8))

-- after so many first ones
unfoldable pub after_blocks : List ℕ → ℕ → ℕ → ℕ
after_blocks s state zero = state
after_blocks s state (suc n) = after_block s (after_blocks s state n) (16 * n)

-- the hash of a string, 64 bits: of at most eight bytes std's, of more also by blocks, and the last
-- one as std's; and the lower half of it, by which a place is kept
unfoldable pub wide : List ℕ → ℕ
wide s =
    if nat_le (length s) 8
    then finish (write initial s)
    else mix s (after_blocks s ((initial.state + length s) % 2 ^ 64) ((length s - 1) / 16))
    (length s - 16) (length s - 8)

abbrev pub hash : List ℕ → ℕ
hash s = wide s % 2 ^ 32

-- a slot without a place
abbrev pub free : Slot
free = record { hash = 0; behind = 0 }

-- the place that the first slot of a hash has, of so many from one on, and before a free one
abbrev pub place_from : List Slot → ℕ → ℕ → ℕ → Option ℕ
place_from slots at zero h = None
place_from slots at (suc n) h =
    if (slice_index_or slots at free).behind == 0
    then None
    else (if (slice_index_or slots at free).hash == h
    then Some ((slice_index_or slots at free).behind - 1)
    else place_from slots (at + 1) n h)

-- the first slot of a hash: that is a part of 2 ^ 32, and this the same part of so many slots
abbrev pub home : ℕ → ℕ → ℕ
home size h = h * size / 2 ^ 32

-- the place that a hash has
unfoldable pub place_of : List Slot → ℕ → ℕ → Option ℕ
place_of slots size h = place_from slots (home size h) 128 h

-- the place of a hash that strings share, at which none of them is kept
abbrev pub shared : ℕ
shared = 2 ^ 32 - 2

-- a slot is the next for a hash: a free one of its own, behind used ones
pub record IsNext (slots : List Slot) (size h number : ℕ) : Type 0 where
  pub unused : (slice_index_or slots number free).behind ≡ 0
  pub from : home size h ≤ number
  pub within : number < home size h + 128
  pub used : (j : ℕ) → home size h ≤ j → j < number → (slice_index_or slots j free).behind ≢ 0

-- a slot is that of a hash: a used one of its own with that hash, behind used ones of others
pub record IsSlotOf (slots : List Slot) (size h number : ℕ) : Type 0 where
  pub used : (slice_index_or slots number free).behind ≢ 0
  pub same : (slice_index_or slots number free).hash ≡ h
  pub from : home size h ≤ number
  pub within : number < home size h + 128
  pub passed : (j : ℕ) → home size h ≤ j → j < number
      → ((slice_index_or slots j free).behind ≢ 0) × ((slice_index_or slots j free).hash ≢ h)

-- the place that a hash has in these slots
abbrev pub place_in : HashedPlaces → ℕ → Option ℕ
place_in places h = place_of places.slots.items places.size h

-- a slot is the next for a hash, if it is one of these
abbrev pub IsNextIn : HashedPlaces → ℕ → ℕ → Type 0
IsNextIn places h number =
    number < length places.slots.items → IsNext places.slots.items places.size h number

-- strings of a hash are looked for in their order: they share it, or it has no place where no more
-- get one
abbrev pub IsOrdered : HashedPlaces → ℕ → Type 0
IsOrdered places h =
    (place_in places h ≡ Some shared) ⊎ ((places.is_full ≡ true) × (place_in places h ≡ None))
