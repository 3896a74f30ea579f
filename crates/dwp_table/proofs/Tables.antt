-- What stands in a table, and what looking up in it gives.
use Rattle.std.proofs.Common.{Bool, eqb, false, inl, inr, sym, ℕ, ◌+◌, ◌-◌, ◌<◌, ◌∙◌, ◌≡◌, ◌≢◌, ◌≤◌}
use Rattle.std.proofs.Common.{add-one, arith, eq-eqb, get_or, length, List, refl}
use Rattle.std.specs.Prelude.{Some}
use Rattle.std.proofs.lemmas.Bool.{eqb-false, eqb-true, ne_eqb, or_from}
use Rattle.dwp_table.specs.Probing.{first_end, found_row, is_end, look_count, place}
use Rattle.dwp_table.specs.Table.{FindsExactly, IsHashTable, IsIndex, IsPlacedAfter, signature_of}
use Rattle.dwp_table.proofs.Finding.{find_first, find_none, first_or_none}
use Rattle.dwp_table.proofs.{Numbers.pigeonhole, Places.place-lt, Places.places_apart}
use Rattle.dwp_base.proofs.Bools.{or-right}

-- the row at the place of x after j others
abbrev pub row_at : List ℕ → ℕ → ℕ → ℕ
row_at rows x j = get_or rows (place (length rows) x j) 0

-- places that are used by rows up to m are no more than m
used_few : (ids rows : List ℕ) (x n m : ℕ) → IsHashTable ids rows → n ≤ length rows
    → ((j : ℕ) → j < n → 0 < row_at rows x j) → ((j : ℕ) → j < n → row_at rows x j ≤ m) → n ≤ m
used_few ids rows x n m table within used low =
    let size = length rows in
    pigeonhole n m (λ j. row_at rows x j - 1)
    (λ j h. omega (arith, used j h, low j h))
    (λ i j p q e.
    let same : row_at rows x i ≡ row_at rows x j = omega (arith, used i p, used j q, e) in
    places_apart size x table.power i j (omega arith) (omega arith)
    (table.once (place size x i) (place size x j) (place-lt size x i table.power)
    (place-lt size x j table.power) (used i p) same))

-- the first place of x that is unused
pub record IsFree (rows : List ℕ) (x i : ℕ) : Type 0 where
  pub within : i < length rows
  pub here : row_at rows x i ≡ 0
  pub earlier : (j : ℕ) → j < i → 0 < row_at rows x j

pub free_early : (ids rows : List ℕ) (x i : ℕ) → IsHashTable ids rows → IsFree rows x i
    → i ≤ length ids
free_early ids rows x i table free = used_few ids rows x i (length ids) table
    (omega (arith, free.within)) free.earlier (λ j h. table.only _)

pub has_free : (ids rows : List ℕ) (x : ℕ) → IsHashTable ids rows → (i : ℕ) × IsFree rows x i
has_free ids rows x table =
    let used : (j : ℕ) → eqb (row_at rows x j) 0 ≡ false → 0 < row_at rows x j =
    λ j e. let ne = eqb-false _ _ e in omega (arith, ne) in
    elim (first_or_none (λ j. eqb (row_at rows x j) 0) (length rows)) [
      | inl w ↦ (
        w.0,
        record {
          within = w.1.within;
          here = eqb-true _ _ w.1.here;
          earlier = λ j h. used j (w.1.earlier j h);
        },
      )
      | inr none ↦
          let few = used_few ids rows x (length rows) (length ids) table (omega arith)
          (λ j h. used j (none j h)) (λ j h. table.only _) in
          absurd (omega (arith, table.room))
    ]

-- ---- the end of a look-up
beside_row : (ids : List ℕ) (row r : ℕ) → row ≡ r + 1 → signature_of ids row ≡ get_or ids r 0
beside_row ids row r e = rw (e, add-one) refl

module _ (ids signatures rows : List ℕ) (x : ℕ) (index : IsIndex ids signatures rows) where
  abbrev ends : ℕ → Bool
  ends j = is_end signatures rows x (place (length rows) x j)

  beside : (j : ℕ) → get_or signatures (place (length rows) x j) 0 ≡ signature_of ids
      (row_at rows x j)
  beside j = index.beside _ (place-lt (length rows) x j index.table.power)

  used_goes_on : (j : ℕ) → 0 < row_at rows x j → ((r : ℕ) → r < length ids → r + 1 ≡ row_at rows x j
      → get_or ids r 0 ≢ x) → ends j ≡ false
  used_goes_on j used ne =
      let row = row_at rows x j in
      let before : row ≡ row - 1 + 1 = omega arith in
      or_from (eqb row 0) _ (ne_eqb row 0 (λ e. omega (arith, used, e))) (ne_eqb _ x (λ e.
      ne (row - 1) (omega (arith, used, index.table.only (place (length rows) x j))) (sym before)
      (sym (beside j ∙ beside_row ids row (row - 1) before) ∙ e)))

  -- where an identifier stands, its look-up ends
  present : (r : ℕ) → r < length ids → get_or ids r 0 ≡ x → (i : ℕ)
      × (first_end signatures rows x ≡ Some i) × IsPlacedAfter rows x (r + 1) i
  unfolding first_end
  present r within same =
      let placed = index.table.placed r within in
      let i = placed.0 in
      let at : IsPlacedAfter rows x (r + 1) i = rw same at placed.1 in (
        i,
        find_first ends 0 (length rows) (length rows) i (omega arith) (omega arith) (record {
          within = at.within;
          here = or-right (eqb (row_at rows x i) 0) _ (eq-eqb _ x (beside i
              ∙ beside_row ids (row_at rows x i) r at.here ∙ same));
          earlier = λ j h. used_goes_on j (at.earlier_used j h) (λ r' within' row e.
              let one = index.distinct r' r within' within (e ∙ sym same) in
              omega (arith, at.earlier_smaller j h, row));
        }),
        at,
      )

  -- where it doesn't, the look-up ends at the first unused place
  absent : ((r : ℕ) → r < length ids → get_or ids r 0 ≢ x) → (i : ℕ)
      × (first_end signatures rows x ≡ Some i) × IsFree rows x i
  unfolding first_end
  absent nowhere =
      let free = has_free ids rows x index.table in (
        free.0,
        find_first ends 0 (length rows) (length rows) free.0 (omega arith) (omega arith) (record {
          within = free.1.within;
          here = rw free.1.here refl;
          earlier = λ j h. used_goes_on j (free.1.earlier j h) (λ r within row. nowhere r within);
        }),
        free.1,
      )

  pub finds_exactly : FindsExactly ids x (found_row signatures rows x)
      (look_count signatures rows x)
  unfolding found_row look_count
  finds_exactly = record {
    present_row = λ r within same. let at = present r within same in
        rw (at.1, at.2.here, add-one) refl;
    present_count = λ r within same. let at = present r within same in
        let few = used_few ids rows x at.0 r index.table (omega (arith, at.2.within))
        at.2.earlier_used (λ j h. omega (arith, at.2.earlier_smaller j h)) in rw at.1 (omega arith);
    absent_row = λ nowhere. let free = absent nowhere in rw (free.1, free.2.here) refl;
    absent_count = λ nowhere. let free = absent nowhere in
        let few = free_early ids rows x free.0 index.table free.2 in rw free.1 (omega arith);
  }

-- ---- the number of slots
pub count_within : (signatures rows : List ℕ) (x : ℕ) → look_count signatures rows x ≤ length rows
unfolding look_count first_end
count_within signatures rows x =
    elim (first_or_none (λ i. is_end signatures rows x (place (length rows) x i)) (length rows)) [
      | inl w ↦ rw (find_first _ 0 (length rows) _ w.0 (omega arith) (omega arith) w.1)
          (omega (arith, w.1.within))
      | inr none ↦ rw (find_none _ 0 (length rows) _ (omega arith) none) (omega arith)
    ]

-- at most one more than there are identifiers, whether one is there or not
pub few_slots : (ids signatures rows : List ℕ) (x : ℕ) → IsIndex ids signatures rows
    → look_count signatures rows x ≤ length ids + 1
few_slots ids signatures rows x index =
    let exact = finds_exactly ids signatures rows x index in
    elim (first_or_none (λ r. eqb (get_or ids r 0) x) (length ids)) [
      | inl w ↦
          let count = exact.present_count w.0 w.1.within (eqb-true _ _ w.1.here) in
          omega (arith, w.1.within)
      | inr none ↦ exact.absent_count (λ r h. eqb-false _ _ (none r h))
    ]
