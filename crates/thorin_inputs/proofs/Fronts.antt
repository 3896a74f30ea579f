-- Texts that others begin with, and the order of texts; FROMs in order, each with the longest other
-- that it begins with; and the longest FROM that a path begins with: of words, as of entries in the
-- order of their FROMs.
use Rattle.std.proofs.Common.{arith, false, fold, length, nat_le, nat_lt, Option, subst, ◌++◌, ◌==◌}
use Rattle.std.proofs.Common.{drop, eqb, List, None, refl, Some, suc, sym, take, ◌-◌, ◌∙◌, ◌∷◌, ◌≤◌}
use Rattle.std.proofs.Common.{length-append, length-drop, Ordering, slice_get, slice_index_or, true}
use Rattle.std.proofs.lemmas.List.{drop_more, get_or-drop, get_or_push, length-take-le, length_push}
use Rattle.std.proofs.lemmas.List.{get_or-map, get_or_append_left, get_or_default, take-append-drop}
use Rattle.std.proofs.lemmas.{Cmp.nat_list_cmp_total, Cmp.tied_itself, Option.get_or_from_slice_get}
use Rattle.thorin_inputs.specs.Mapped.{AreNested, by_entry, Entries, is_upto, IsOrdered, IsPastLast}
use Rattle.std.specs.List.{AllByRecursion, AllWithin, common_prefix_len, Sorted.IsStrictlySortedBy}
use Rattle.thorin_inputs.specs.Prefixes.{from_of, has_equals, longest, Replaced, replaced, with_to}
use Rattle.std.specs.{Cmp.Lexicographic.slice_cmp, Map.keys_of, Ordering.is_le, Ordering.nat_cmp}
use Rattle.std.proofs.lemmas.Bool.{eqb-false, eqb-true, false_from_ne_true, ltb-false, ltb-true}
use Rattle.std.specs.{Borrow.Bor, BTreeMap.insert_entry, List.Sorted.IsPartitionedBy, Prelude.⊤}
use Rattle.{dwp_base.proofs.Bools.by-bool, std.proofs.Math.Seq.take-append_seam}
use Rattle.std.proofs.lemmas.Bool.{Decides.nat_tests, eq-eqb, le-leb, lt-leb}
use Rattle.std.proofs.lemmas.List.{get_or-take, length-map, Sums.fold-append}
use Rattle.std.proofs.lemmas.Map.{Keys.Less-from_sorted, Lookups.exact_bytes}
use Rattle.std.specs.declared.cmp.Ordering.TheVariants.{Equal, Greater, Less}
use Rattle.thorin_inputs.specs.Prefixes.{behind, longer, to_of}
use Rattle.thorin_inputs.specs.Mapped.{AreOf, begins, Entry}
use Rattle.std.proofs.Common.{[], ap, ℕ, ◌+◌, ◌<◌, ◌≡◌}

-- what stands behind a front is the rest
pub behind-some : (front text rest : List ℕ) → behind front text ≡ Some rest → text ≡ front ++ rest
behind-some [] text rest h = cc
behind-some (x ∷ xs) [] rest h = absurd (cc h)
behind-some (x ∷ xs) (y ∷ ys) rest h = grind (arith, nat_tests, behind-some xs ys rest)

pub begun : (front text : List ℕ) → begins front text ≡ true
    → (rest : List ℕ) × (text ≡ front ++ rest)
begun [] text b = (text, refl)
begun (x ∷ xs) [] b = absurd (cc b)
begun (x ∷ xs) (y ∷ ys) b = by-bool _ (x == y)
    (λ e. let more = begun xs ys (rw e at b) in (more.0, grind (arith, nat_tests, more.1)))
    (λ e. absurd (cc (rw e at b)))

pub behind-prefix : (prefix rest : List ℕ) → behind prefix (prefix ++ rest) ≡ Some rest
behind-prefix [] rest = refl
behind-prefix (x ∷ xs) rest = rw (eq-eqb x x refl) (behind-prefix xs rest)

-- two fronts that leave as much are equal
pub same-front : (f g text r s : List ℕ) → behind f text ≡ Some r → behind g text ≡ Some s
    → length r ≡ length s → f ≡ g
same-front f g text r s a b e =
    let p = behind-some f text r a in
    let q = behind-some g text s b in
    let long = ap (λ (l : List ℕ). length l) (sym p ∙ q) in
    let size : length f ≡ length g =
    omega (arith, long, length-append f r, length-append g s, e) in
    sym (take-append_seam f r) ∙ ap (take (length f)) (sym p ∙ q) ∙ rw size (take-append_seam g s)

pub begins-trans : (f g t : List ℕ) → begins f g ≡ true → begins g t ≡ true → begins f t ≡ true
begins-trans [] g t a b = refl
begins-trans (x ∷ f) [] t a b = absurd (cc a)
begins-trans (x ∷ f) (y ∷ g) [] a b = absurd (cc b)
begins-trans (x ∷ f) (y ∷ g) (z ∷ t) a b = grind (arith, nat_tests, begins-trans f g t)

pub begins-itself : (text : List ℕ) → begins text text ≡ true
begins-itself [] = refl
begins-itself (x ∷ xs) = rw (eq-eqb x x refl) (begins-itself xs)

-- a text begins with those fronts of another that are no longer than what both have alike
pub alike : (a b front : List ℕ) → begins front a ≡ true
    → begins front b ≡ nat_le (length front) (common_prefix_len (λ x y. x == y) a b)
alike a b [] f = sym (le-leb 0 _ (omega arith))
alike [] b (x ∷ xs) f = absurd (cc f)
alike (y ∷ ys) [] (x ∷ xs) f = sym (lt-leb (suc (length xs)) 0 (omega arith))
alike (y ∷ ys) (z ∷ zs) (x ∷ xs) f = grind (arith, nat_tests, alike ys zs xs)

-- ---- the order of texts

pub upto-trans : (xs ys zs : List ℕ) → is_upto xs ys ≡ true → is_upto ys zs ≡ true
    → is_upto xs zs ≡ true
upto-trans [] ys zs a b = grind arith
upto-trans (x ∷ xs) [] zs a b = absurd (cc a)
upto-trans (x ∷ xs) (y ∷ ys) [] a b = absurd (cc b)
upto-trans (x ∷ xs) (y ∷ ys) (z ∷ zs) a b = grind (arith, nat_tests, upto-trans xs ys zs)

pub begins-upto : (front text : List ℕ) → begins front text ≡ true → is_upto front text ≡ true
begins-upto [] text b = grind arith
begins-upto (x ∷ xs) [] b = absurd (cc b)
begins-upto (x ∷ xs) (y ∷ ys) b = grind (arith, nat_tests, begins-upto xs ys)

-- what stands between a text and a front of it begins with the front
pub between : (front text other : List ℕ) → begins front text ≡ true → is_upto front other ≡ true
    → is_upto other text ≡ true → begins front other ≡ true
between [] text other b x y = refl
between (f ∷ fs) [] other b x y = absurd (cc b)
between (f ∷ fs) (t ∷ ts) [] b x y = absurd (cc x)
between (f ∷ fs) (t ∷ ts) (o ∷ os) b x y = grind (arith, nat_tests, between fs ts os)

-- of two fronts the higher leaves no more
pub shorter : (f g text r s : List ℕ) → behind f text ≡ Some r → behind g text ≡ Some s
    → is_upto f g ≡ true → length s ≤ length r
shorter [] g text r s a b u =
    let all : r ≡ g ++ s = cc (behind-some g text s b) in
    omega (arith, ap (λ (l : List ℕ). length l) all, length-append g s)
shorter (x ∷ f) [] text r s a b u = absurd (cc u)
shorter (x ∷ f) (y ∷ g) [] r s a b u = absurd (cc a)
shorter (x ∷ f) (y ∷ g) (z ∷ text) r s a b u = grind (arith, nat_tests, shorter f g text r s)

-- ---- FROMs in order

abbrev pub order : Bor (List ℕ) → Bor (List ℕ) → Ordering
order x y = slice_cmp nat_cmp x.now y.now

abbrev pub From : Entries → ℕ → Entry → List ℕ
From es i d = (slice_index_or es i d).0.now

pub rising : (es : Entries) → IsOrdered es → (i j : ℕ) (d : Entry) → i ≤ j → j < length es
    → is_upto (From es i d) (From es j d) ≡ true
rising es ordered i j d le lt =
    by-bool _ (eqb i j) (λ same.
    rw (eqb-true i j same) (ap is_le (tied_itself nat_list_cmp_total (From es j d)))) (λ apart.
    let other = eqb-false i j apart in
    let key = λ (k : ℕ) (less : k < length es). get_or-map (λ (e : Entry). e.0) es k d d.0 less in
    let less = Less-from_sorted order (keys_of es) i j d.0 ordered (omega (arith, le, other))
    (rw (length-map es (λ (e : Entry). e.0)) lt) in
    ap is_le (rw (key i (omega (arith, le, lt)), key j lt) at less))

pub parted : (es : Entries) → IsOrdered es → (text : List ℕ)
    → IsPartitionedBy (λ e. is_upto e.0.now text) es
parted es ordered text i j d le lt h =
    upto-trans (From es i d) (From es j d) text (rising es ordered i j d le lt) h

-- one more
pub nested-more : {es : Entries} {inner : List ℕ} {count place : ℕ} (e : Entry)
    → AreNested es inner count → length inner ≡ count → count < length es
    → IsPastLast es count (From es count e) place → AreNested es (inner ++ place ∷ []) (count + 1)
nested-more {es} {inner} {count} {place} e nested long short past = record {
  known = omega (arith, long, length_push inner place);
  past = λ i d lt. by-bool _ (eqb i count)
      (λ same. rw (
        eqb-true i count same,
        get_or_push inner place 0 count long,
        get_or_default es count d e short,
      ) past) (λ apart.
      let other = eqb-false i count apart in
      let below : i < count = omega (arith, lt, other) in
      rw (get_or_append_left inner (place ∷ []) 0 i (omega (arith, long, below)))
      (nested.past i d below));
}

-- what is known of a place: the FROM before it is a front of the top one, and behind it the text
-- begins with none
pub record Walked (es : Entries) (count : ℕ) (text top : List ℕ) (place : ℕ) : Type 0 where
  pub inside : place ≤ count
  pub chain : AllWithin (λ e. begins e.0.now top ≡ true) es (place - 1) place
  pub others : AllWithin (λ e. begins e.0.now text ≡ false) es place count

module _ (es : Entries) (count : ℕ) (text : List ℕ) (short : count ≤ length es) (last : Entry) where
  abbrev Top : List ℕ
  Top = From es (count - 1) last

  same : (k : ℕ) (d : Entry) → k < count → From es k d ≡ From es k last
  same k d lt = ap (λ (e : Entry). e.0.now) (get_or_default es k d last (omega (arith, short, lt)))

  pub walked-first : 0 < count → Walked es count text Top count
  walked-first some = record {
    inside = omega arith;
    chain = λ k d lo hi.
        let at : k ≡ count - 1 = omega (arith, lo, hi) in
        rw (same k d hi, at) (begins-itself Top);
    others = λ k d lo hi. absurd (omega (arith, lo, hi));
  }

  module _ (common : ℕ) (alike : (front : List ℕ) → begins front Top ≡ true
      → begins front text ≡ nat_le (length front) common) (inner : List ℕ)
      (ordered : IsOrdered es) (nested : AreNested es inner count)
      (before : AllWithin (λ e. is_upto e.0.now text ≡ true) es 0 count) (place : ℕ)
      (walked : Walked es count text Top place) (some : 0 < place)
      (long : common < length (From es (place - 1) last)) where
    abbrev Own : List ℕ
    Own = From es (place - 1) last

    left : place - 1 < count
    left = omega (arith, some, walked.inside)

    own : IsPastLast es (place - 1) Own (slice_index_or inner (place - 1) 0)
    own = nested.past (place - 1) last left

    fits : begins Own Top ≡ true
    fits = walked.chain (place - 1) last (omega arith) (omega (arith, some))

    -- those between both places with which the text began would be fronts of the FROM at hand
    below : (k : ℕ) (d : Entry) → slice_index_or inner (place - 1) 0 ≤ k → k < place - 1
        → begins (From es k d) text ≡ true → ⊥
    below k d lo hi front =
        let whole : count - 1 < length es = omega (arith, short, left) in
        let mine : begins (From es k last) text ≡ true =
        rw (same k d (omega (arith, hi, left))) at front in
        let top = between (From es k last) text Top mine
        (rising es ordered k (count - 1) last (omega (arith, hi, left)) whole)
        (before (count - 1) last (omega arith) (omega (arith, left))) in
        let own-front = between (From es k last) Top Own top
        (rising es ordered k (place - 1) last (omega (arith, hi)) (omega (arith, short, left)))
        (rising es ordered (place - 1) (count - 1) last (omega (arith, left)) whole) in
        cc (sym own-front ∙ own.others k last lo hi)

    pub walked-on : Walked es count text Top (slice_index_or inner (place - 1) 0)
    walked-on = record {
      inside = omega (arith, own.inside, walked.inside);
      chain = λ k d lo hi. begins-trans (From es k d) Own Top (own.fits k d lo hi) fits;
      others = λ k d lo hi. by-bool _ (nat_lt k (place - 1))
          (λ b. false_from_ne_true _ (λ front. below k d lo (ltb-true k (place - 1) b) front))
          (λ b. by-bool _ (eqb k (place - 1)) (λ e. rw (same k d hi, eqb-true k (place - 1) e)
          (alike Own fits ∙ lt-leb (length Own) common long)) (λ e.
          let other = eqb-false k (place - 1) e in
          walked.others k d (omega (arith, ltb-false k (place - 1) b, other)) hi));
    }

-- ---- the longest FROM that a path begins with

longer-none : (r : Replaced) → longer r None ≡ r
longer-none r = grind arith

-- of two that leave as much of the path the later counts
tie : (best : Replaced) (s t : List ℕ) (rest : Option (List ℕ))
    → longer (longer best (with_to s rest)) (with_to t rest) ≡ longer best (with_to t rest)
tie best s t rest = grind (arith, nat_tests)

module _ (path : List ℕ) where
  abbrev With : Replaced → Entry → Replaced
  With best entry = longer best (by_entry path entry)

  -- ---- an entry more

  -- else the order is none of both
  swap : (best : Replaced) (a b s t : List ℕ) → (a ≡ b → ⊥)
      → longer (longer best (with_to s (behind a path))) (with_to t (behind b path))
      ≡ longer (longer best (with_to t (behind b path))) (with_to s (behind a path))
  swap best a b s t other = grind (arith, nat_tests, same-front a b path)

  -- past entries with other FROMs
  through : (low : Bor (List ℕ)) (from to : List ℕ)
      → ((k : Bor (List ℕ)) → order low k ≡ Less → from ≡ k.now → ⊥) → (es : Entries)
      (best : Replaced) → AllByRecursion (λ k. order low k ≡ Less) (keys_of es)
      → fold With (longer best (with_to to (behind from path))) es
      ≡ longer (fold With best es) (with_to to (behind from path))
  through low from to other [] best all = refl
  through low from to other (e ∷ es) best all =
      rw (swap best from e.0.now to e.1.now (other e.0 all.0))
      (through low from to other es (longer best (by_entry path e)) all.1)

  insert_step : (from to : Bor (List ℕ)) (e : Entry) (es : Entries) (best : Replaced) (o : Ordering)
      → order from e.0 ≡ o → AllByRecursion (λ k. order e.0 k ≡ Less) (keys_of es)
      → fold With (longer best (by_entry path e)) (insert_entry order es from to)
      ≡ longer (fold With (longer best (by_entry path e)) es) (by_entry path (from, to))
      → fold With best (insert_entry order (e ∷ es) from to)
      ≡ longer (fold With best (e ∷ es)) (by_entry path (from, to))
  insert_step from to e es best Less is above more =
      rw is (ap (λ (b : Replaced). fold With b es)
      (swap best from.now e.0.now to.now e.1.now (λ same.
      cc (sym (tied_itself nat_list_cmp_total e.0.now) ∙ rw same at is)))
      ∙ through e.0 from.now to.now (λ k less same.
      cc (sym (tied_itself nat_list_cmp_total e.0.now)
      ∙ nat_list_cmp_total.trans e.0.now from.now e.0.now (rw same less) is))
      es (longer best (by_entry path e)) above)
  insert_step from to e es best Equal is above more =
      let same : from.now ≡ e.0.now = exact_bytes from.now e.0.now is in
      rw (is, same) (ap (λ (b : Replaced). fold With b es)
      (sym (tie best e.1.now to.now (behind e.0.now path)))
      ∙ through e.0 e.0.now to.now (λ k less same.
      cc (sym (tied_itself nat_list_cmp_total e.0.now) ∙ rw (← same) at less))
      es (longer best (by_entry path e)) above)
  insert_step from to e es best Greater is above more = rw is more

  pub inserted : (from to : Bor (List ℕ)) (es : Entries) (best : Replaced) → IsOrdered es
      → fold With best (insert_entry order es from to)
      ≡ longer (fold With best es) (by_entry path (from, to))
  unfolding IsStrictlySortedBy
  inserted from to [] best ordered = refl
  inserted from to (e ∷ es) best ordered =
      insert_step from to e es best (order from e.0) refl ordered.0
      (inserted from to es (longer best (by_entry path e)) ordered.1)

  -- ---- the last of entries in order

  -- a prefix leaves so many bytes of the path at least
  abbrev Leaves : ℕ → Replaced → Type 0
  Leaves n None = ⊤
  Leaves n (Some r) = n ≤ length r.1

  leaves-all : (n : ℕ) (es : Entries) (best : Replaced) → Leaves n best
      → ((k : ℕ) (d : Entry) → k < length es → Leaves n (by_entry path (slice_index_or es k d)))
      → Leaves n (fold With best es)
  leaves-all n [] best h all = h
  leaves-all n (e ∷ es) best h all =
      leaves-all n es (longer best (by_entry path e)) (grind (arith, nat_tests, h, all 0 e))
      (λ k d lt. all (suc k) d (omega (arith, lt)))

  none-fits : (es : Entries) (best : Replaced) → ((k : ℕ) (d : Entry) → k < length es
      → begins (slice_index_or es k d).0.now path ≡ false) → fold With best es ≡ best
  none-fits [] best h = refl
  none-fits (e ∷ es) best h =
      let missed : by_entry path e ≡ None = grind (arith, h 0 e) in
      rw (missed, longer-none best)
      (none-fits es best (λ k d lt. h (suc k) d (omega (arith, lt))))

  module _ {words : List (Bor (List ℕ))} {es : Entries} (are : AreOf words es)
      (ordered : IsOrdered es) {count place : ℕ} (inside : count ≤ length es)
      (above : AllWithin (λ e. is_upto e.0.now path ≡ false) es count (length es))
      (past : IsPastLast es count path place) where
    others : AllWithin (λ e. begins e.0.now path ≡ false) es place (length es)
    others k d lo hi =
        by-bool _ (nat_lt k count) (λ b. past.others k d lo (ltb-true k count b))
        (λ b. false_from_ne_true _ (λ front.
        cc (sym (begins-upto (From es k d) path front) ∙ above k d (ltb-false k count b) hi)))

    pub none : place ≡ 0 → None ≡ longest words path
    none first = sym (are.alike path
        ∙ none-fits es None (λ k d lt. others k d (omega (arith, first)) lt))

    pub last : (entry : Entry) (rest : List ℕ) → 0 < place → slice_get es (place - 1) ≡ Some entry
        → behind entry.0.now path ≡ Some rest → Some (entry.1.now, rest) ≡ longest words path
    last entry rest some at fits =
        let own = get_or_from_slice_get es (place - 1) entry entry at in
        let short : place - 1 < length es = omega (arith, some, past.inside, inside) in
        let split = sym (take-append-drop (place - 1) es)
        ∙ ap (λ (l : Entries). take (place - 1) es ++ l)
        (rw own at (drop_more es (place - 1) entry short)) in
        let before = fold With None (take (place - 1) es) in
        let less : Leaves (length rest) before =
        leaves-all (length rest) (take (place - 1) es) None tt (λ k d lt.
        let low : k < place - 1 = rw (length-take-le (place - 1) es (omega (arith, short))) at lt in
        let high = subst (λ (e : Entry). is_upto (From es k d) e.0.now ≡ true)
        (get_or_from_slice_get es (place - 1) entry d at)
        (rising es ordered k (place - 1) d (omega (arith, low)) short) in
        rw (get_or-take (place - 1) es k d low)
        (grind (arith, shorter (From es k d) entry.0.now path, fits, high))) in
        let behind-last = drop (place - 1 + 1) es in
        let won : longer before (by_entry path entry) ≡ Some (entry.1.now, rest) =
        grind (arith, nat_tests, fits, less) in
        sym (are.alike path ∙ ap (λ (l : Entries). fold With None l) split
        ∙ fold-append With None (take (place - 1) es) (entry ∷ behind-last)
        ∙ ap (λ (b : Replaced). fold With b behind-last) won
        ∙ none-fits behind-last (Some (entry.1.now, rest)) (λ k d lt.
        rw (get_or-drop (place - 1 + 1) es k d) (others (place - 1 + 1 + k) d (omega (arith, some))
        (omega (arith, lt, length-drop (place - 1 + 1) es, short)))))

-- ---- a word more

module _ {words : List (Bor (List ℕ))} (word : Bor (List ℕ)) {entries : Entries}
    (are : AreOf words entries) where
  more : (path : List ℕ) → longest (words ++ word ∷ []) path
      ≡ longer (longest words path) (replaced path word.now)
  more path = fold-append (λ best word. longer best (replaced path word.now)) None words (word ∷ [])

  pub passed : has_equals word.now ≡ false → AreOf (words ++ word ∷ []) entries
  unfolding replaced
  passed none = record {
    alike = λ path. more path ∙ rw none (longer-none (longest words path)) ∙ are.alike path;
  }

  pub put : (from to : Bor (List ℕ)) {new : Entries} → has_equals word.now ≡ true
      → from.now ≡ from_of word.now → to.now ≡ to_of word.now → IsOrdered entries
      → new ≡ insert_entry order entries from to → AreOf (words ++ word ∷ []) new
  unfolding replaced
  put from to equals is_from is_to ordered is = record {
    alike = λ path.
        let same : replaced path word.now ≡ by_entry path (from, to) =
        rw (equals, ← is_from, ← is_to) refl in
        more path
        ∙ rw (same, are.alike path, is) (sym (inserted path from to entries None ordered));
  }
