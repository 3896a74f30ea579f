-- Words FROM=TO, looked up by their FROM.
use Rattle.std.specs.Prelude.{◌≡◌, ℕ, ◌-◌, ◌<◌, ◌≤◌, List, fold, length, true, false, Bool, None}
use Rattle.std.specs.Prelude.{is_some, slice_index_or}
use Rattle.std.specs.Borrow.{Bor}
use Rattle.std.specs.Cmp.Lexicographic.{slice_cmp}
use Rattle.std.specs.List.{AllWithin}
use Rattle.std.specs.List.Sorted.{IsStrictlySortedBy}
use Rattle.std.specs.Map.{keys_of}
use Rattle.std.specs.Ordering.{is_le, nat_cmp}
use Rattle.thorin_inputs.specs.Prefixes.{Replaced, behind, longer, longest, with_to}

-- FROMs, and the TO of each
abbrev pub Entry : Type 0
Entry = Bor (List ℕ) × Bor (List ℕ)

abbrev pub Entries : Type 0
Entries = List Entry

-- by an entry: none where its FROM is no prefix of the path
abbrev pub by_entry : (path : List ℕ) → Entry → Replaced
by_entry path entry = with_to entry.1.now (behind entry.0.now path)

-- entries replace as words do
pub record AreOf (words : List (Bor (List ℕ))) (entries : Entries) : Type 0 where
  pub alike : (path : List ℕ) → longest words path
      ≡ fold (λ best entry. longer best (by_entry path entry)) None entries

-- they are in the order of their FROMs
abbrev pub IsOrdered : Entries → Type 0
IsOrdered entries = IsStrictlySortedBy (λ x y. slice_cmp nat_cmp x.now y.now) (keys_of entries)

-- whether a text is no higher than another
abbrev pub is_upto : List ℕ → List ℕ → Bool
is_upto xs ys = is_le (slice_cmp nat_cmp xs ys)

-- whether a text begins with another
abbrev pub begins : (front text : List ℕ) → Bool
begins front text = is_some (behind front text)

-- the place behind the last of so many entries with whose FROM a text begins; 0 where there is none
pub record IsPastLast (entries : Entries) (count : ℕ) (text : List ℕ) (place : ℕ) : Type 0 where
  pub inside : place ≤ count
  pub fits : AllWithin (λ entry. begins entry.0.now text ≡ true) entries (place - 1) place
  pub others : AllWithin (λ entry. begins entry.0.now text ≡ false) entries place count

-- that is known of so many FROMs themselves, each among the entries before it
pub record AreNested (entries : Entries) (inner : List ℕ) (count : ℕ) : Type 0 where
  pub known : count ≤ length inner
  pub past : (i : ℕ) (d : Entry) → i < count
      → IsPastLast entries i (slice_index_or entries i d).0.now (slice_index_or inner i 0)
