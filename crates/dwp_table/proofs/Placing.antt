-- Placing one more identifier keeps all earlier placements.
use Rattle.std.proofs.Common.{get_or, length, List, [], ℕ, ◌++◌, ◌+◌, ◌<◌, ◌^◌, ◌∷◌, ◌≡◌, ◌≢◌, ◌⊎◌}
use Rattle.std.proofs.Common.{eq-eqb, get_or-set_other, get_or-set_same, length-append, length-set}
use Rattle.std.proofs.Common.{ap, arith, eqb, IsTrue, ne_eqb, None, replicate, set, Some}
use Rattle.std.{proofs.lemmas.Bool.cases_eq, proofs.lemmas.Bool.cases_lt, specs.Int.is_power_of_two}
use Rattle.std.proofs.lemmas.Grind.{elements, get_or-set_at}
use Rattle.std.proofs.lemmas.List.{get_or_past, length-replicate}
use Rattle.std.proofs.{Math.Decide.dec_lt, Math.ListN.get_or-append, Math.Seq.get_or-append_seam}
use Rattle.dwp_table.{proofs.Finding.find_first, proofs.Finding.find_none, specs.Probing.place}
use Rattle.dwp_table.specs.Table.{first_unused, IsHashTable, IsPlacedAfter}
use Rattle.dwp_table.proofs.Tables.{has_free, IsFree, row_at}
use Rattle.dwp_table.proofs.Places.{place-lt, positive}

-- ---- one more row in an unused slot
module _ (rows : List ℕ) (x i row : ℕ) (free : IsFree rows x i) where
  abbrev slot : ℕ
  slot = place (length rows) x i

  abbrev new : List ℕ
  new = set rows slot row

  -- a slot that was used stays as it was
  kept : (k : ℕ) → 0 < get_or rows k 0 → get_or new k 0 ≡ get_or rows k 0
  kept k used = get_or-set_other rows slot k row 0 (λ e.
      omega (arith, ap (λ n. get_or rows n 0) e, free.here))

  same : length new ≡ length rows
  same = length-set rows slot row

  -- and so does each row at its place
  pub stays : (y r j : ℕ) → 0 < r → IsPlacedAfter rows y r j → IsPlacedAfter new y r j
  stays y r j some at =
      grind (arith, same, kept, at.within, at.here, at.earlier_used, at.earlier_smaller)

  -- the row stands there, behind rows that are smaller
  pub stands : IsTrue (is_power_of_two (length rows)) → ((k : ℕ) → get_or rows k 0 < row)
      → IsPlacedAfter new x row i
  stands power more = record {
    within = rw same free.within;
    here = rw same (get_or-set_same rows slot row 0 (place-lt (length rows) x i power));
    earlier_used = λ k h. rw (same, kept _ (free.earlier k h)) (free.earlier k h);
    earlier_smaller = λ k h. rw (same, kept _ (free.earlier k h)) (more _);
  }

-- ---- one more identifier
module _ (ids rows : List ℕ) (x i : ℕ) (table : IsHashTable ids rows) (free : IsFree rows x i)
    (room : length ids + 1 < length rows) where
  abbrev last_slot : ℕ
  last_slot = place (length rows) x i

  abbrev with_last : List ℕ
  with_last = set rows last_slot (length ids + 1)

  -- a slot has the new row, or what it had
  abbrev After : ℕ → Type 0
  After k = ((k ≡ last_slot) × (get_or with_last k 0 ≡ length ids + 1))
      ⊎ ((k ≢ last_slot) × (get_or with_last k 0 ≡ get_or rows k 0))

  after : (k : ℕ) → After k
  after k =
      let within = place-lt (length rows) x i table.power in
      grind (arith, cases_eq k last_slot, get_or-set_at, get_or-set_other)

  all_placed : (r : ℕ) → r < length (ids ++ x ∷ []) → (j : ℕ) × IsPlacedAfter with_last
      (get_or (ids ++ x ∷ []) r 0) (r + 1) j
  all_placed r within = elim (dec_lt r (length ids)) [
    | yes p ↦
        let at = table.placed r p in (
          at.0,
          rw (get_or-append ids (x ∷ []) 0 r p) (stays rows x i (length ids + 1) free _ (r + 1)
              at.0 (omega arith) at.1),
        )
    | no p ↦
        let last : length ids ≡ r = omega (arith, length-append ids (x ∷ [])) in (
          i,
          rw (← last, get_or-append_seam ids x [] 0) (stands rows x i (length ids + 1) free
              table.power (λ k. omega (arith, table.only k))),
        )
  ]

  pub placed_table : IsHashTable (ids ++ x ∷ []) with_last
  placed_table =
      let more = length-append ids (x ∷ []) in
      let same = length-set rows last_slot (length ids + 1) in
      record {
        power = rw same table.power;
        room = omega (arith, more, same);
        small = omega (arith, same, table.small);
        placed = all_placed;
        once = λ k l p q used e.
            grind (arith, after k, after l, table.only k, table.only l, table.once k l);
        only = λ k. grind (arith, more, after k, table.only k);
      }

-- ---- the first unused place
pub first_unused-free : (rows : List ℕ) (x i : ℕ) → IsFree rows x i → first_unused rows x ≡ Some i
unfolding first_unused
first_unused-free rows x i free = find_first (λ j. eqb (row_at rows x j) 0)
    0 (length rows) (length rows) i (omega arith) (omega arith) (record {
      within = free.within;
      here = eq-eqb _ _ free.here;
      earlier = λ j h. ne_eqb _ _ (λ e. omega (arith, free.earlier j h));
    })

-- every place of x is used
abbrev pub AllUsed : List ℕ → ℕ → Type 0
AllUsed rows x = (j : ℕ) → j < length rows → 0 < row_at rows x j

pub first_unused-none : (rows : List ℕ) (x : ℕ) → AllUsed rows x → first_unused rows x ≡ None
unfolding first_unused
first_unused-none rows x used = find_none (λ j. eqb (row_at rows x j) 0) 0 (length rows)
    (length rows) (omega arith) (λ j h. ne_eqb _ _ (λ e. omega (arith, used j h)))

pub not_all_used : (ids rows : List ℕ) (x : ℕ) → IsHashTable ids rows → AllUsed rows x → ⊥
not_all_used ids rows x table used = let free = has_free ids rows x table in
    omega (arith, free.1.here, used free.0 free.1.within)

-- ---- no identifier yet
zero_in : (n k : ℕ) → ◌≡◌ {A = ℕ} (get_or (replicate n 0) k 0) 0
zero_in n k = grind (arith, elements, get_or_past, cases_lt k n)

pub empty_table : (size : ℕ) → IsTrue (is_power_of_two size) → size < 2 ^ 32
    → IsHashTable [] (replicate size 0)
empty_table size power small =
    let same = length-replicate {A = ℕ} size 0 in
    record {
      power = rw same power;
      room = omega (arith, same, positive size power);
      small = omega (arith, same);
      placed = λ r h. absurd (omega arith);
      once = λ k l p q used e. absurd (omega (arith, zero_in size k));
      only = λ k. omega (arith, zero_in size k);
    }
