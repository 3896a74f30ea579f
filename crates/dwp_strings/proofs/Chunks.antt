-- A list cut into pieces: where each begins, what a rank finds, and how the whole changes with
-- them. No piece is long: it is cut in its middle before it would be.
use Rattle.dwp_strings.specs.Chunks.{AreShort, IsChunked, IsHalved, IsPieceOf, pieces, starts_from}
use Rattle.std.proofs.Common.{[], ap, arith, zero, ℕ, ◌++◌, ◌-◌, ◌/◌, ◌<◌, ◌∙◌, ◌∷◌, ◌≡◌, ◌≤◌, ◌⊎◌}
use Rattle.std.proofs.Common.{add-one, append_assoc, Bool, filter, get_or, insert, length, take_all}
use Rattle.std.proofs.Common.{append-nil, length-append, length-drop, length-take, take-append-drop}
use Rattle.std.proofs.Common.{ap₂, drop, length-set, List, map, refl, set, suc, sym, take, Vec, ◌+◌}
use Rattle.std.proofs.lemmas.List.Edits.{get_or-insert_above, get_or-insert_at, get_or-insert_below}
use Rattle.std.proofs.lemmas.List.Edits.{insert-append_left, insert-append_right, length-insert}
use Rattle.std.proofs.lemmas.List.Elements.{All-cons, All-map, All-set, filter-append}
use Rattle.std.proofs.lemmas.List.{Folds.concat-append, Sums.count_by-le-length, Sums.length-filter}
use Rattle.std.proofs.lemmas.List.{drop-map, drop_all, get_or-append_right, map_more, take-map}
use Rattle.std.proofs.lemmas.List.{get_or-map, get_or_default, length-map, set_split, take_more_set}
use Rattle.std.proofs.lemmas.List.{get_or_append_left, map-append, set-get_or, take_more, take_rest}
use Rattle.std.proofs.lemmas.List.{map-set, Sorted.All-permutation, Sorted.IsPermutation-insert}
use Rattle.std.proofs.lemmas.{Grind.common_steps, Grind.get_or-set_at, List.Edits.map_over_more}
use Rattle.std.{proofs.Math.Seq.split_at, specs.List.concat}

pub length-starts_from : (n : ℕ) (ps : List (List ℕ)) → length (starts_from n ps) ≡ length ps
length-starts_from n [] = refl
length-starts_from n (p ∷ ps) = ap suc (length-starts_from (n + length p) ps)

-- the list around a piece
concat_around : (ps : List (List ℕ)) (k : ℕ) → k < length ps → concat ps ≡ concat (take k ps) ++
    (get_or ps k [] ++ concat (drop (suc k) ps))
concat_around ps k within = ap concat (split_at ps k [] within) ∙ concat-append (take k ps)
    (get_or ps k [] ∷ drop (suc k) ps)

-- a piece begins behind those before it
start_at : (n : ℕ) (ps : List (List ℕ)) (k : ℕ) → k < length ps → get_or (starts_from n ps) k 0
    ≡ n + length (concat (take k ps))
start_at n [] k within = absurd (omega arith)
start_at n (p ∷ ps) zero within = omega arith
start_at n (p ∷ ps) (suc k) within = grind (arith, start_at (n + length p) ps k, length-append)

-- a start and a part of its piece are within the whole
pub start_within : (ps : List (List ℕ)) (at part : ℕ) → at < length ps
    → part ≤ length (get_or ps at []) → get_or (starts_from 0 ps) at 0 + part ≤ length (concat ps)
start_within ps at part there within = grind (arith, start_at, concat_around ps at, length-append)

-- some piece begins at the front
pub first_start : (ps : List (List ℕ)) → get_or (starts_from 0 ps) 0 0 ≡ 0
first_start [] = refl
first_start (p ∷ ps) = refl

pub some_piece : (ps : List (List ℕ)) → 0 < length (concat ps) → 0 < length ps
some_piece [] some = some
some_piece (p ∷ ps) some = omega arith

-- one more to each number from a place on
abbrev pub raised : ℕ → List ℕ → List ℕ
raised from xs = take from xs ++ map (λ s. s + 1) (drop from xs)

starts_raised : (n : ℕ) (ps : List (List ℕ)) → starts_from (n + 1) ps ≡ map (λ s. s + 1)
    (starts_from n ps)
starts_raised n [] = refl
starts_raised n (p ∷ ps) = grind (arith, starts_raised (n + length p) ps)

-- pieces behind one that has grown by a number begin one later
starts_grown : (n : ℕ) (ps : List (List ℕ)) (k : ℕ) (q : List ℕ) → k < length ps
    → length q ≡ length (get_or ps k []) + 1 → starts_from n (set ps k q) ≡ raised (suc k)
    (starts_from n ps)
starts_grown n [] k q within long = absurd (omega arith)
starts_grown n (p ∷ ps) zero q within long = grind (arith, starts_raised (n + length p) ps)
starts_grown n (p ∷ ps) (suc k) q within long = grind (arith, starts_grown (n + length p) ps k q)

-- what a rank finds, or where a number goes at it
module _ (ps : List (List ℕ)) (starts : List ℕ) (rank at start : ℕ)
    (begun : starts ≡ starts_from 0 ps) (piece : IsPieceOf starts rank at)
    (is : start ≡ get_or starts at 0) (within : rank ≤ length (concat ps)) where
  pub record IsInPiece : Type 0 where
    pub there : at < length ps
    pub begins : start ≡ length (concat (take at ps))
    pub low : start ≤ rank
    pub high : rank - start ≤ length (get_or ps at [])
    pub inside : rank < length (concat ps) → rank - start < length (get_or ps at [])
    pub got : rank < length (concat ps)
        → get_or (concat ps) rank 0 ≡ get_or (get_or ps at []) (rank - start) 0

  pub placed : IsInPiece
  placed =
      let there : at < length ps = grind (arith, piece.there, length-starts_from) in
      let begins : start ≡ length (concat (take at ps)) = grind (arith, start_at 0 ps at there) in
      let low : start ≤ rank = grind (arith, piece.low) in
      let long : length (concat (take (at + 1) ps)) ≡ start + length (get_or ps at []) =
      grind (arith, common_steps, concat-append, take_more) in
      let last : (rank < start + length (get_or ps at []))
      ⊎ (length (concat ps) ≡ start + length (get_or ps at [])) =
      grind (arith, long, start_at 0 ps (at + 1), piece.high, length-starts_from, take_all) in
      grind (arith, last, concat_around ps at there, get_or-append_right, get_or_append_left)

  -- the chunks once one stands there
  pub chunk_inserted : (qs : List (List ℕ)) (new : List ℕ) (count v : ℕ)
      → count ≡ length (concat ps) → qs ≡ set ps at (insert (get_or ps at []) (rank - start) v)
      → new ≡ raised (at + 1) starts → AreShort ps → length (get_or ps at []) < 1024
      → (concat qs ≡ insert (concat ps) rank v) × IsChunked qs new (count + 1)
  chunk_inserted qs new count v counted put raise short room =
      let longer = length-insert (get_or ps at []) (rank - start) v placed.high in
      let whole : concat qs ≡ insert (concat ps) rank v = rw (
        put,
        set_split ps at _ placed.there,
        concat-append (take at ps),
        concat_around ps at placed.there,
        insert-append_right (concat (take at ps)) _ start rank v (sym placed.begins) placed.low,
        insert-append_left (get_or ps at []) _ (rank - start) v placed.high,
      ) in (
        whole,
        record {
          begun = grind (arith, starts_grown 0 ps at _ placed.there longer);
          counted = grind (arith, whole, length-insert (concat ps) rank v);
          short = rw put (All-set (λ p. length p ≤ 1024) ps at _ (omega (arith, longer)) short);
        },
      )

-- a filter of each piece
pub concat_filter : (f : ℕ → Bool) (ps : List (List ℕ)) → concat (map (filter f) ps) ≡
    filter f (concat ps)
concat_filter f [] = refl
concat_filter f (p ∷ ps) = grind (arith, concat_filter f ps, filter-append)

-- what it keeps of the first pieces is no more than the whole
pub kept_within : (f : ℕ → Bool) (ps : List (List ℕ)) (i : ℕ)
    → length (concat (map (filter f) (take i ps))) ≤ length (concat ps)
kept_within f ps zero = omega arith
kept_within f [] (suc i) = omega arith
kept_within f (p ∷ ps) (suc i) =
    grind (arith, kept_within f ps i, length-append, length-filter, count_by-le-length)

-- no piece is longer
pub short_filter : (f : ℕ → Bool) (ps : List (List ℕ)) → AreShort ps → AreShort (map (filter f) ps)
short_filter f ps short = All-map (λ p. length p ≤ 1024) (filter f) ps (λ k d within.
    grind (arith, length-filter, count_by-le-length, short k d))

starts_from-push : (n : ℕ) (ps : List (List ℕ)) (p : List ℕ) → starts_from n (ps ++ p ∷ []) ≡
    starts_from n ps ++ (n + length (concat ps)) ∷ []
starts_from-push n [] p = grind arith
starts_from-push n (q ∷ ps) p = grind (arith, starts_from-push (n + length q) ps p, length-append)

-- so many pieces are filtered, or changed in another way, and their starts written
pub record IsKept (f : List ℕ → List ℕ) (ps now : List (List ℕ)) (starts : List ℕ)
    (at total : ℕ) : Type 0 where
  pub long : length starts ≡ length now
  pub kept : now ≡ map f (take at ps) ++ drop at ps
  pub begun : take at starts ≡ starts_from 0 (map f (take at ps))
  pub counted : total ≡ length (concat (map f (take at ps)))

module _ (f : List ℕ → List ℕ) (ps now : List (List ℕ)) (starts : List ℕ) (at total : ℕ)
    (so_far : IsKept f ps now starts at total) where
  kept_long : length now ≡ length ps
  kept_long = grind (arith, common_steps, so_far.kept)

  pub kept_more : (next : List (List ℕ)) (n : ℕ) → at < length starts
      → next ≡ set now at (f (get_or now at [])) → n ≡ length (get_or next at [])
      → IsKept f ps next (set starts at total) (at + 1) (total + n)
  kept_more next n less step is =
      let within : at < length ps = omega (arith, so_far.long, kept_long) in
      let new : get_or next at [] ≡ f (get_or ps at []) =
      grind (arith, common_steps, so_far.kept, kept_long) in
      let more = map_more f ps at [] within in
      record {
        long = grind (arith, length-set, so_far.long);
        kept = grind (arith, so_far.kept, kept_long, map_over_more f, get_or_default);
        begun = rw (take_more_set starts at total less, so_far.begun, more, starts_from-push)
            (grind (arith, so_far.counted));
        counted = rw more
            (grind (arith, new, so_far.counted, concat-append, append-nil, length-append));
      }

  module _ (past : length starts ≤ at) where
    done : take at ps ≡ ps
    done = take_all at ps (omega (arith, so_far.long, kept_long))

    pub kept_all : now ≡ map f ps
    kept_all = grind (arith, so_far.kept, so_far.long, kept_long, done, drop_all, append-nil)

    pub chunked_all : AreShort (map f ps) → IsChunked now starts total
    chunked_all short = rw kept_all
        (grind (arith, done, take_all at starts past, so_far.begun, so_far.counted))

-- a piece cut in two
concat_cut : (ps : List (List ℕ)) (k : ℕ) (front back : List ℕ) → k < length ps
    → front ++ back ≡ get_or ps k [] → concat (insert (set ps k front) (suc k) back) ≡ concat ps
concat_cut [] k front back within parts = absurd (omega arith)
concat_cut (p ∷ ps) zero front back within parts = grind (arith, append_assoc)
concat_cut (p ∷ ps) (suc k) front back within parts = grind (arith, concat_cut ps k front back)

starts_cut : (n : ℕ) (ps : List (List ℕ)) (k : ℕ) (front back : List ℕ) → k < length ps
    → front ++ back ≡ get_or ps k [] → starts_from n (insert (set ps k front) (suc k) back) ≡ insert
    (starts_from n ps) (suc k) (get_or (starts_from n ps) k 0 + length front)
starts_cut n [] k front back within parts = absurd (omega arith)
starts_cut n (p ∷ ps) zero front back within parts = grind (arith, length-append)
starts_cut n (p ∷ ps) (suc k) front back within parts =
    grind (arith, starts_cut (n + length p) ps k front back)

-- a rank in a piece is in one of its halves
pub record IsInHalf (starts : List ℕ) (rank at : ℕ) : Type 0 where
  pub there : at + 1 < length starts
  pub first : rank < get_or starts (at + 1) 0 → IsPieceOf starts rank at
  pub second : get_or starts (at + 1) 0 ≤ rank → IsPieceOf starts rank (at + 1)

module _ (ps qs : List (List ℕ)) (at : ℕ) (within : at < length ps)
    (halved : IsHalved ps qs at) where
  abbrev half : ℕ
  half = length (get_or ps at []) / 2

  pub halves_same : concat qs ≡ concat ps
  halves_same = grind (arith, halved, concat_cut, take-append-drop)

  pub halves_begun : starts_from 0 qs ≡ insert (starts_from 0 ps) (suc at)
      (get_or (starts_from 0 ps) at 0 + half)
  halves_begun = grind (arith, halved, starts_cut, take-append-drop, length-take)

  pub halves_short : AreShort ps → AreShort qs
  halves_short short =
      let fits : List ℕ → Type 0 = λ p. length p ≤ 1024 in
      rw halved (All-permutation fits (drop half (get_or ps at []) ∷ set ps at _) _
      (IsPermutation-insert _ (suc at) _)
      (All-cons fits _ _ (grind (arith, length-drop, short at []))
      (All-set fits ps at _ (grind (arith, length-take, short at [])) short)))

  -- both halves have room
  pub halves_room : AreShort ps → (length (get_or qs at []) < 1024)
      × (length (get_or qs (at + 1) []) < 1024)
  halves_room short =
      let front = set ps at (take half (get_or ps at [])) in
      let back = drop half (get_or ps at []) in
      let first = get_or-insert_below front (suc at) back [] at in
      let second = get_or-insert_at front (suc at) back [] in
      let lengths = short at [] within in
      rw (halved, add-one at)
      (grind (arith, lengths, first, second, get_or-set_at, length-set, length-take, length-drop))

  pub in_half : (starts new : List ℕ) (rank : ℕ) → starts ≡ starts_from 0 ps
      → IsPieceOf starts rank at → new ≡ starts_from 0 qs → IsInHalf new rank at
  in_half starts new rank begun piece is_new =
      let long : length new ≡ length starts + 1 =
      grind (arith, halves_begun, length-insert, length-starts_from) in
      record {
        there = omega (arith, piece.there);
        first = λ less. grind (arith, halves_begun, get_or-insert_below, length-starts_from);
        second = λ more. grind (arith, halves_begun, get_or-insert_above, length-starts_from);
      }

pub length-pieces : {A B : Type 0} (all : Vec (Vec ℕ A) B) → length (pieces all.items) ≡ all.len
length-pieces {A} all =
    omega (arith, length-map all.items (λ (chunk : Vec ℕ A). chunk.items), all.ok.0)

-- how many chunks and starts there are
pub ruleset counts = (length-starts_from, length-pieces)

module _ {A : Type 0} (chunks : List (Vec ℕ A)) (at : ℕ) (chunk : Vec ℕ A) where
  pub pieces-set : pieces (set chunks at chunk) ≡ set (pieces chunks) at chunk.items
  pieces-set = map-set (λ (chunk : Vec ℕ A). chunk.items) chunks at chunk

  pub pieces-insert : pieces (insert chunks at chunk) ≡ insert (pieces chunks) at chunk.items
  pieces-insert =
      let f : Vec ℕ A → List ℕ = λ chunk. chunk.items in
      map-append f (take at chunks) (chunk ∷ drop at chunks) ∙ ap₂ (λ l r. l ++ (chunk.items ∷ r))
      (sym (take-map f at chunks)) (sym (drop-map f at chunks))

-- a vector that was read, and then changed in its place
module _ {A : Type 0} (chunks : List (Vec ℕ A)) (at : ℕ) (chunk : Vec ℕ A)
    (within : at < length chunks) (read : chunk ≡ get_or chunks at chunk) where
  pub piece_read : get_or (pieces chunks) at [] ≡ chunk.items
  piece_read = get_or-map (λ (chunk : Vec ℕ A). chunk.items) chunks at chunk [] within ∙ ap
      (λ (chunk : Vec ℕ A). chunk.items) (sym read)

  pub piece_changed : (new : Vec ℕ A) (f : List ℕ → List ℕ) → new.items ≡ f chunk.items
      → pieces (set chunks at new) ≡ set (pieces chunks) at (f (get_or (pieces chunks) at []))
  piece_changed new f change = pieces-set chunks at new ∙ ap (set (pieces chunks) at)
      (change ∙ ap f (sym piece_read))

  pub piece_unchanged : (new : Vec ℕ A) → new.items ≡ chunk.items
      → pieces (set chunks at new) ≡ pieces chunks
  piece_unchanged new same = piece_changed new (λ l. l) same ∙ set-get_or (pieces chunks) at []

  -- or cut in two
  pub piece_halved : (all : List (Vec ℕ A)) (len : ℕ) (front back : Vec ℕ A)
      → len ≡ length chunk.items → front.items ≡ take (len / 2) chunk.items
      → back.items ≡ take (length chunk.items - len / 2) (drop (len / 2) chunk.items)
      → all ≡ insert (set chunks at front) (at + 1) back → IsHalved (pieces chunks) (pieces all) at
  piece_halved all len front back long is_front is_back is_all =
      let whole = ap pieces is_all in
      let inserted = pieces-insert (set chunks at front) (at + 1) back in
      let changed = pieces-set chunks at front in
      let upper = take_rest chunk.items (len / 2) in
      let next = add-one at in
      rw piece_read (cc)
