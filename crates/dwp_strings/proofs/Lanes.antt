-- What a vector that is stored makes of a copy, and what a mask of at most 64 bytes says of each.
use Rattle.std.proofs.Common.{Bool, drop, eqb, false, length-take-le, true, ◌-◌, ◌<◌, ◌^◌, ◌∙◌, ◌≤◌}
use Rattle.std.proofs.lemmas.Simd.{bit_mask_l, get_or-zip2, length-chunk, length-sel_l, mask_l-mod}
use Rattle.std.proofs.lemmas.Simd.{get_or-chunk, get_or-put_chunk_above, get_or-sel_l, length-zip2}
use Rattle.std.specs.{Int.Count.trailing_of_zero, Int.bit_at, Int.trailing_zeros, Vec.with_items}
use Rattle.std.proofs.Common.{List, ap₂, arith, cond, get_or, length, ltb, not, take, w8, ℕ, ◌≡◌}
use Rattle.std.proofs.lemmas.{Grind.elements, Simd.get_or-put_chunk_below, Simd.tops_compared}
use Rattle.std.proofs.lemmas.Simd.{get_or-put_chunk_at, get_or-replicate, length-put_chunk}
use Rattle.std.proofs.Common.{ap, get_or-take, length-append, length-take, map, ◌%◌, ◌++◌}
use Rattle.std.proofs.{Math.Seq.take-append-add, lemmas.Nat.Bits.bit_at-trailing_zeros}
use Rattle.std.proofs.lemmas.List.{length-replicate, take-append-le, with_items_is}
use Rattle.std.proofs.Common.{Vec, length-drop, replicate, sym, w64, ◌+◌, ◌≢◌}
use Rattle.std.proofs.lemmas.Bool.{Decides.nat_tests, cases_lt, eqb-false}
use Rattle.std.specs.Simd.Lanes.{mask_l, put_chunk, sel_l, top, zip2}

-- so many bytes of a place
module _ (bytes room : List ℕ) (at n : ℕ) (within : at + n ≤ length bytes)
    (fits : at + n ≤ length room) where
  abbrev taken : List ℕ
  taken = take n (drop at bytes)

  -- these are the same then
  pub stored_there : (k : ℕ) → at ≤ k → k < at + n
      → get_or (put_chunk at room taken) k 0 ≡ get_or bytes k 0
  stored_there k low less =
      let put = get_or-put_chunk_at at room taken (k - at) 0 in
      let got = get_or-chunk at n bytes (k - at) 0 in
      grind (arith, put, got, length-chunk at n bytes within)

  -- and those that were
  pub stored_kept : (k : ℕ) → get_or room k 0 ≡ get_or bytes k 0
      → get_or (put_chunk at room taken) k 0 ≡ get_or bytes k 0
  stored_kept k was =
      let below = get_or-put_chunk_below at room taken k 0 in
      let above = get_or-put_chunk_above at room taken k 0 in
      let long = length-chunk at n bytes within in
      grind (arith, below, above, stored_there k, long, cases_lt k at, cases_lt k (at + n))

-- how long it stays, too
pub ruleset stored = (stored_there, stored_kept, length-put_chunk)

-- room of a list, once it is written to:
-- what stands in it is behind what is used
pub in_room : {Z : Type 0} (v : Vec ℕ Z) (items room : List ℕ) (used k n : ℕ)
    → length items ≡ v.len → used ≤ length items → length room ≡ length items - used
    → k ≡ length items - used → n ≤ length room
    → take (used + n) (with_items v (take used items ++ (room ++ drop k (drop used items)))).items
    ≡ take used items ++ take n room
in_room v items room used k n whole within long is fits =
    let front = take used items in
    let behind = drop k (drop used items) in
    ap (take (used + n)) (with_items_is v (front ++ (room ++ behind))
    (grind (arith, length-append, length-take-le, length-drop)))
    ∙ ap (λ u. take (u + n) (front ++ (room ++ behind))) (sym (length-take-le used items within))
    ∙ take-append-add front (room ++ behind) n
    ∙ ap (λ l. front ++ l) (take-append-le n room behind fits)

-- the mask of a test of two vectors of bytes, as it is computed
abbrev mask_of : (ℕ → ℕ → Bool) → List ℕ → List ℕ → ℕ
mask_of f l m = mask_l (map (top 7) (zip2 (λ a b. cond (f a b) 255 0) l m)) % 2 ^ 64

module _ (f : ℕ → ℕ → Bool) (l m : List ℕ) (same : length l ≡ length m) (few : length l ≤ 64) where
  -- the test fails below the lowest bit that is set, and passes at that bit
  first_set : (k : ℕ) → k < length l → (k < trailing_zeros w64 (mask_of f l m)
      → f (get_or l k 0) (get_or m k 0) ≡ false)
      × (k ≡ trailing_zeros w64 (mask_of f l m) → f (get_or l k 0) (get_or m k 0) ≡ true)
  first_set k within =
      let low = bit_at-trailing_zeros w64 (mask_of f l m) in
      let some = cases_lt 0 (mask_of f l m) in
      let tops = tops_compared w8 f l m in
      let few_lanes = mask_l-mod (zip2 f l m) 64 in
      let bit : cond (f (get_or l k 0) (get_or m k 0)) 1 0 ≡ bit_at (mask_of f l m) k =
      grind (arith, length-zip2 f l m same, tops, few_lanes, get_or-zip2, bit_mask_l) in
      let none = trailing_of_zero 64 in
      (λ less. grind (arith, bit, low, some, none), λ is. grind (arith, bit, low, some, none))

-- so many bytes from a place on, compared with zero
module _ (bytes : List ℕ) (at n : ℕ) (few : n ≤ 64) (room : at + n ≤ length bytes) (k : ℕ)
    (within : k < n) where
  abbrev first : ℕ
  first = trailing_zeros w64 (mask_of eqb (take n (drop at bytes)) (replicate n 0))

  -- those below the lowest bit that is set aren't, and the byte at that bit is
  pub lanes : (k < first → get_or bytes (at + k) 0 ≢ 0) × (k ≡ first → get_or bytes (at + k) 0 ≡ 0)
  lanes =
      let long = length-chunk at n bytes room in
      let set = first_set eqb (take n (drop at bytes)) (replicate n 0)
      (long ∙ sym (length-replicate n 0)) (omega (arith, long)) k (omega (arith, long)) in
      let lane = ap₂ eqb (get_or-chunk at n bytes k 0 within) (get_or-replicate n k 0 0 within) in
      (λ less. grind (arith, nat_tests, lane, set.0), λ is. grind (arith, nat_tests, lane, set.1))

-- so many bytes from one place on, and from another
module _ (n : ℕ) (few : n ≤ 64) (bytes other : List ℕ) (at to : ℕ) (room : at + n ≤ length bytes)
    (room' : to + n ≤ length other) (k : ℕ) (within : k < n) where
  abbrev l : List ℕ
  l = take n (drop at bytes)

  abbrev m : List ℕ
  m = take n (drop to other)

  -- none of those is zero of which no lesser one is
  pub both_some : mask_of eqb (sel_l (map (top 7) (zip2 (λ a b. cond (ltb a b) 255 0) l m)) l m)
      (replicate n 0) ≡ 0 → (get_or bytes (at + k) 0 ≢ 0) × (get_or other (to + k) 0 ≢ 0)
  both_some is =
      let long_l = length-chunk at n bytes room in
      let long_m = length-chunk to n other room' in
      let less : List Bool = zip2 ltb l m in
      let least : List ℕ = sel_l less l m in
      let long_less : length less ≡ n = length-zip2 ltb l m (long_l ∙ sym long_m) ∙ long_l in
      let long_least : length least ≡ n = length-sel_l less l m (long_less ∙ sym long_l)
      (long_less ∙ sym long_m) ∙ long_less in
      let none : mask_of eqb least (replicate n 0) ≡ 0 =
      ap (λ ls. mask_of eqb (sel_l ls l m) (replicate n 0)) {x = less}
      (sym (tops_compared w8 ltb l m)) ∙ is in
      let some = eqb-false _ _ ((first_set eqb least (replicate n 0)
      (long_least ∙ sym (length-replicate n 0)) (omega (arith, long_least, few)) k
      (omega (arith, long_least, within))).0 (rw none (omega (arith, trailing_of_zero 64)))) in
      let selected = get_or-sel_l less l m k 0 in
      let compared = get_or-zip2 ltb l m k 0 0 false in
      let zero = get_or-replicate {A = ℕ} n k 0 0 within in
      let first = get_or-chunk at n bytes k 0 within in
      let second = get_or-chunk to n other k 0 within in
      grind (arith, nat_tests, some, selected, compared, zero, first, second, long_l, long_m)

  -- those before the first that differ
  pub lanes_same_before : k < trailing_zeros w64 (mask_of (λ a b. not (eqb a b)) l m)
      → get_or bytes (at + k) 0 ≡ get_or other (to + k) 0
  lanes_same_before less =
      let long_l = length-chunk at n bytes room in
      let same = (first_set (λ a b. not (eqb a b)) l m
      (long_l ∙ sym (length-chunk to n other room'))
      (omega (arith, long_l, few)) k (omega (arith, long_l, within))).0 less in
      let first = get_or-chunk at n bytes k 0 within in
      grind (arith, nat_tests, first, get_or-chunk to n other k 0 within, same)

-- fronts of which each byte is the same
pub same_fronts : (xs ys : List ℕ) (n : ℕ) → n ≤ length xs → n ≤ length ys
    → ((k : ℕ) → k < n → get_or xs k 0 ≡ get_or ys k 0) → take n xs ≡ take n ys
same_fronts xs ys n within within' same = grind (arith, elements, get_or-take, length-take)
