-- Entries taken one after the other.
use Rattle.std.proofs.Common.{List, Ok, suc, zero, [], ℕ, ◌++◌, ◌+◌, ◌-◌, ◌<◌, ◌∙◌, ◌∷◌, ◌≡◌, ◌≤◌}
use Rattle.std.proofs.Common.{ap, append-nil, append_assoc, arith, Err, length, refl, Result, sym}
use Rattle.dwp_base.specs.Reading.{◌>>=◌}
use Rattle.dwp_archive.specs.{declared.error.ArchiveError.ArchiveError, Members.members_from}
use Rattle.dwp_archive.specs.Entries.{Entry, entry_at, Member}

abbrev Members : Type 0
Members = Result (List Member) ArchiveError

abbrev whole : List Member → Members
whole members = Ok members

-- members behind others
abbrev pub behind : List Member → Members → Members
behind front rest = rest >>= λ members. Ok (front ++ members)

-- the members of an entry, and at most n behind it
abbrev with_more : ℕ → Result Entry ArchiveError → Members
with_more n entry = entry >>= λ entry. members_from n entry.names entry.rest >>= λ members.
    Ok (entry.members ++ members)

some_more : (front more : List Member) (rest : Members)
    → behind front (rest >>= λ members. Ok (more ++ members)) ≡ behind (front ++ more) rest
some_more front more (Ok members) = ap whole (sym (append_assoc front more members))
some_more front more (Err e) = refl

module _ (n i : ℕ) (names bytes : List ℕ) (front : List Member) where
  -- one entry of those that are left
  taken : (entry : Result Entry ArchiveError) → i < n → 0 < length bytes
      → entry_at names bytes ≡ entry
      → members_from (n - i) names bytes ≡ with_more (n - (i + 1)) entry
  unfolding members_from
  taken entry h some is = at_count bytes (n - i) (n - (i + 1)) (omega arith) some is
    where
      at_count : (bytes : List ℕ) (m k : ℕ) → m ≡ suc k → 0 < length bytes
          → entry_at names bytes ≡ entry → members_from m names bytes ≡ with_more k entry
      at_count [] m k e some is = absurd (omega arith)
      at_count (b ∷ bytes) m k e some is = rw (e, is) refl

  pub entry_taken : (entry : Entry) → i < n → 0 < length bytes
      → entry_at names bytes ≡ Ok entry
      → behind front (members_from (n - i) names bytes)
      ≡ behind (front ++ entry.members) (members_from (n - (i + 1)) entry.names entry.rest)
  entry_taken entry h some is =
      ap (behind front) (taken (Ok entry) h some is)
      ∙ some_more front entry.members (members_from (n - (i + 1)) entry.names entry.rest)

  pub entry_fails : (e : ArchiveError) → i < n → 0 < length bytes → entry_at names bytes ≡ Err e
      → behind front (members_from (n - i) names bytes) ≡ Err e
  entry_fails e h some is = ap (behind front) (taken (Err e) h some is)

  pub entries_end : length bytes ≡ 0 → behind front (members_from (n - i) names bytes) ≡ Ok front
  unfolding members_from
  entries_end h = ap (behind front) (none (n - i) bytes h) ∙ ap whole (append-nil front)
    where
      none : (m : ℕ) (bytes : List ℕ) → length bytes ≡ 0 → members_from m names bytes ≡ Ok []
      none zero bytes h = refl
      none (suc m) [] h = refl
      none (suc m) (b ∷ bytes) h = absurd (omega arith)

  pub entries_done : n ≤ i → behind front (members_from (n - i) names bytes) ≡ Ok front
  unfolding members_from
  entries_done h = let none : n - i ≡ 0 = omega arith in rw none (ap whole (append-nil front))
