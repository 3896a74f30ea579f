-- How strings that begin inside others are counted, place by place.
use Rattle.std.specs.Prelude.{◌≡◌, ℕ, ◌≤◌, ◌||◌, Bool, true, false, nat_lt}
use Rattle.std.specs.BTreeSet.{contains}
use Rattle.std.specs.Ordering.{nat_cmp}
use Rattle.thorin_inputs.specs.declared.overlaps.InnerStrings.{InnerStrings}
use Rattle.thorin_inputs.specs.InnerStrings.{most_inner, sizes_at}

-- a place is counted
abbrev pub is_counted : InnerStrings → ℕ → Bool
is_counted it at = contains nat_cmp it.places at

-- the size is that of the strings at the places that are counted
abbrev pub IsSummed : InnerStrings → Type 0
IsSummed it = it.size ≡ sizes_at it.strings.now (is_counted it)

-- and it isn't too large
pub record IsWithin (it : InnerStrings) : Type 0 where
  pub summed : IsSummed it
  pub few : it.size ≤ most_inner it.file_size

-- the places that are named are counted too: all of them, or so many that the size is too large
pub record Counts (old new : InnerStrings) (is_named : ℕ → Bool) (is_past : Bool) : Type 0 where
  pub strings : new.strings.now ≡ old.strings.now
  pub file : new.file_size ≡ old.file_size
  pub summed : IsSummed new
  pub past : is_past ≡ nat_lt (most_inner old.file_size) new.size
  pub only : (at : ℕ) → is_counted new at ≡ true → (is_counted old at || is_named at) ≡ true
  pub all : is_past ≡ false → (at : ℕ) → is_counted new at ≡ (is_counted old at || is_named at)
