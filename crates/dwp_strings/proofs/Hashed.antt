-- The strings of a table: some positions of them, in their order; places at which they begin, and
-- strings that are used. Strings of entries, found by their hashes, or else by their order. The
-- hash of a string, made of blocks of sixteen bytes, and places of strings by hashes, in slots.
use Rattle.std.proofs.Common
use Common.{All, arith, Bool, drop, false, List, ltb-true, None, OnOk, refl, Some, take, zero, ◌++◌}
use Common.{AllPairs, get_or-set_other, get_or-set_same, get_or-take, length-take, take-append-drop}
use Common.{Contains, filter, get_or, insert, length, length-append, lt-ltb, OnErr, Result, take_at}
use Common.{Err, ltb, map, Ok, set, suc, sym, ◌%◌, ◌*◌, ◌+◌, ◌-◌, ◌/◌, ◌<◌, ◌^◌, ◌∙◌, ◌∷◌, ◌≡◌, ◌≢◌}
use Common.{ap, [], ℕ, ⊎_elim, ◌≤◌}
use Rattle.dwp_strings.proofs.Named.{begins_there, distinct_push, offset_of-absent, there_once_used}
use Rattle.dwp_strings.proofs.Named.{begun_later, has_Decides, known_offset, there_later}
use Rattle.dwp_strings.proofs.Named.{length-data_of-cons, strings_in-data_of, zero_free-strings_in}
use Rattle.dwp_strings.specs.Places.{after_block, IsOrdered, IsSlotOf, place_from, place_in, shared}
use Rattle.dwp_strings.specs.Places.{after_blocks, free, hash, home, place_of, wide}
use Rattle.dwp_strings.specs.Strings.{BeginsAt, IsBefore, IsIndexed, IsPlaced, IsZeroFree, StandsAt}
use Rattle.dwp_strings.specs.Strings.{IsTable, offset_of, strings_in, terminated, with_string}
use Rattle.dwp_strings.specs.declared.{entries.Entries.Entries, places.Slot.Slot}
use Rattle.dwp_strings.specs.{Hashed.held, Hashed.IsFound, Hashed.IsHashed, Strings.data_of}
use Rattle.std.proofs.lemmas.Cmp.{nat_eq_equiv, nat_list_cmp_total, tied_itself}
use Rattle.std.proofs.lemmas.List.Edits.{get_or-insert_above, get_or-insert_at, get_or-insert_below}
use Rattle.std.proofs.lemmas.List.Elements.{All-cons, All-contains, All-filter, Contains-push_cases}
use Rattle.std.proofs.lemmas.List.Elements.{All-push, All-take, Contains-get_or, filter_passes}
use Rattle.std.proofs.lemmas.List.Sorted.{Contains-permutation, IsPermutation-insert}
use Rattle.std.proofs.lemmas.List.{Concat.flat_map-append, length-map, Sorted.All-permutation}
use Rattle.std.proofs.lemmas.List.{flat_map_more, get_or-map, get_or_default, get_or_past}
use Rattle.std.proofs.lemmas.Map.Made.{IsDistinct-from_AllPairs, length-le_from_is_member}
use Rattle.std.proofs.lemmas.Map.Made.{is_member-Decides, is_member-filter}
use Rattle.std.proofs.lemmas.{Bool.cases_lt, Bool.cond-true, Bool.lt-leb, List.Kept.AllPairs-filter}
use Rattle.std.{proofs.Common.eqb-true, specs.Hash.FoldHasher.initial, specs.Hash.FoldHasher.mix}
use Rattle.std.{proofs.lemmas.Bool.Decides.Decides-eqb, specs.declared.alloc.AllocError.AllocError}
use Rattle.{dwp_bytes.specs.StringOffsets.string_from, std.proofs.lemmas.List.Edits.length-insert}

-- the state after the blocks before a place
unfoldable pub mixed_to : List ℕ → ℕ → ℕ
mixed_to bytes at = after_blocks bytes ((0x243f_6a88_85a3_08d3 + length bytes) % 2 ^ 64) (at / 16)

-- before any
pub mixed_first : (bytes : List ℕ)
    → mixed_to bytes 0 ≡ (0x243f_6a88_85a3_08d3 + length bytes) % 2 ^ 64
unfolding mixed_to after_blocks
mixed_first bytes = refl

-- after one more
pub mixed_more : (bytes : List ℕ) (at to : ℕ) → at % 16 ≡ 0 → to ≡ at + 16
    → mixed_to bytes to ≡ after_block bytes (mixed_to bytes at) at
unfolding mixed_to after_blocks
mixed_more bytes at to whole is =
    let here : at ≡ 16 * (at / 16) = omega (arith, whole) in
    let more : to / 16 ≡ suc (at / 16) = omega (arith, whole, is) in
    rw (more, ← here)

-- after all
pub mixed_all : (bytes : List ℕ) (at : ℕ) → 8 < length bytes → at % 16 ≡ 0 → at < length bytes
    → length bytes - at < 17
    → mix bytes (mixed_to bytes at) (length bytes - 16) (length bytes - 8) ≡ wide bytes
unfolding mixed_to wide initial
mixed_all bytes at long whole within near =
    let count : (length bytes - 1) / 16 ≡ at / 16 = omega (arith, whole, within, near) in
    rw (lt-leb (length bytes) 8 long, count)

-- past all slots each is free
pub free_past : (slots : List Slot) (k : ℕ) → length slots ≤ k → (get_or slots k free).behind ≡ 0
free_past slots k past = ap (λ (t : Slot). t.behind) (get_or_past slots k free past)

pub slot_within : (slots : List Slot) (k : ℕ) → (get_or slots k free).behind ≢ 0 → k < length slots
slot_within slots k used = grind (arith, cases_lt k (length slots), free_past slots k)

-- the slots from a place on, as far as another one, are used and of other hashes
abbrev pub ArePassed : List Slot → ℕ → ℕ → ℕ → Type 0
ArePassed slots at k h = (j : ℕ) → at ≤ j → j < k → ((get_or slots j free).behind ≢ 0)
    × ((get_or slots j free).hash ≢ h)

module _ (slots : List Slot) (h k : ℕ) where
  abbrev slot : Slot
  slot = get_or slots k free

  -- one more is
  pub passed_more : (at : ℕ) → slot.behind ≢ 0 → slot.hash ≢ h → ArePassed slots at k h
      → ArePassed slots at (k + 1) h
  passed_more at some other passed = λ j low less. grind arith

  -- a slot of the hash behind such ones tells its place
  pub slot_from : (at n : ℕ) → at ≤ k → ArePassed slots at k h → k < at + n → slot.behind ≢ 0
      → slot.hash ≡ h → place_from slots at n h ≡ Some (slot.behind - 1)
  slot_from at zero low passed high some same = absurd (omega arith)
  slot_from at (suc n) low passed high some same = grind (arith, slot_from (at + 1) n, passed at)

  -- a free one, or the end of those that are looked at, that there is none
  pub none_from : (at n : ℕ) → at ≤ k → ArePassed slots at k h → (k < at + n → slot.behind ≡ 0)
      → place_from slots at n h ≡ None
  none_from at zero low passed none = refl
  none_from at (suc n) low passed none = grind (arith, none_from (at + 1) n, passed at)

-- each slot has its place among others, and so has each hash
pub each_from : (slots new : List Slot) (size at n h p : ℕ)
    → ((j : ℕ) → (get_or slots j free).behind ≢ 0
    → place_of new size (get_or slots j free).hash ≡ Some ((get_or slots j free).behind - 1))
    → place_from slots at n h ≡ Some p → place_of new size h ≡ Some p
each_from slots new size at zero h p each is = cc
each_from slots new size at (suc n) h p each is =
    grind (arith, each_from slots new size (at + 1) n h p, each at)

-- a slot is put at a place
module _ (slots : List Slot) (s : Slot) (k : ℕ) where
  -- what had a place keeps it, where the slot there was free
  pub kept_from : (at n h p : ℕ) → (get_or slots k free).behind ≡ 0
      → place_from slots at n h ≡ Some p → place_from (set slots k s) at n h ≡ Some p
  kept_from at zero h p was is = is
  kept_from at (suc n) h p was is =
      grind (arith, kept_from (at + 1) n h p, get_or-set_other slots k at s free)

  module _ (within : k < length slots) (some : s.behind ≢ 0) where
    -- its hash has its place, where it is the next one for it
    pub put_from : (at n : ℕ) → at ≤ k → k < at + n
        → ((j : ℕ) → at ≤ j → j < k → (get_or slots j free).behind ≢ 0)
        → place_from slots at n s.hash ≡ None
        → place_from (set slots k s) at n s.hash ≡ Some (s.behind - 1)
    put_from at zero low high used none = absurd (omega arith)
    put_from at (suc n) low high used none =
        let here = get_or-set_same slots k s free within in
        grind (arith, put_from (at + 1) n, used at, here, get_or-set_other slots k at s free)

    -- or where it has one, once that is another
    pub given_of : (size : ℕ) → IsSlotOf slots size s.hash k
        → place_of (set slots k s) size s.hash ≡ Some (s.behind - 1)
    unfolding place_of
    given_of size is =
        let here = get_or-set_same slots k s free within in
        slot_from (set slots k s) s.hash k (home size s.hash) 128 is.from
        (λ j l m. rw (get_or-set_other slots k j s free (omega arith)) (is.passed j l m))
        is.within (rw here some) (ap (λ (t : Slot). t.hash) here)
        ∙ ap (λ (t : Slot). Some (t.behind - 1)) here

    -- and other hashes have theirs
    pub others_from : (at n h : ℕ) → s.hash ≡ (get_or slots k free).hash
        → (get_or slots k free).behind ≢ 0 → h ≢ s.hash
        → place_from (set slots k s) at n h ≡ place_from slots at n h
    others_from at zero h same was other = refl
    others_from at (suc n) h same was other =
        let here = get_or-set_same slots k s free within in
        grind (arith, others_from (at + 1) n h, here, get_or-set_other slots k at s free)

-- no string comes before itself
not_before_itself : (s : List ℕ) → IsBefore s s → ⊥
not_before_itself s less = let own = tied_itself nat_list_cmp_total s in cc

-- the string that begins at a place has that offset
pub known_offset_in : (bytes positions s : List ℕ) (p : ℕ) → IsIndexed bytes positions
    → BeginsAt bytes p → string_from bytes p ≡ s
    → Contains (strings_in bytes) s × (p ≡ offset_of (strings_in bytes) s)
known_offset_in bytes positions s p table begins is =
    rw (table.ended, is) at (known_offset (strings_in bytes) p (zero_free-strings_in bytes)
    table.distinct (rw table.ended begins))

-- no more positions than strings
pub positions_few : (bytes positions : List ℕ) → IsIndexed bytes positions
    → length positions ≤ length (strings_in bytes)
positions_few bytes positions table =
    let ss = strings_in bytes in
    let offsets = map (offset_of ss) ss in
    let begun : All (Contains offsets) positions = λ i d within.
    let p = get_or positions i d in
    let known = known_offset_in bytes positions (string_from bytes p) p table
    (table.begun i d within) refl in
    let there = get_or-map (offset_of ss) ss known.0.0 (string_from bytes p) p known.0.1 in
    let many = length-map ss (offset_of ss) in
    (known.0.0, omega (arith, known.0.1, many), grind (arith, there, known)) in
    let apart = λ (i j d : ℕ). not_before_itself (string_from bytes (get_or positions j d)) in
    let few = length-le_from_is_member nat_eq_equiv positions offsets
    (IsDistinct-from_AllPairs Decides-eqb positions
    (λ i j d less within same. grind (arith, apart i j d, table.sorted i j d less within)))
    (λ q there. (is_member-Decides Decides-eqb offsets q).1 (All-contains (Contains offsets)
    positions q begun ((is_member-Decides Decides-eqb positions q).0 there))) in
    omega (arith, few, length-map ss (offset_of ss))

-- where the elements stand once one more is inserted
ruleset inserted = (length-insert, get_or-insert_below, get_or-insert_at, get_or-insert_above)

-- a list stays in order when a number goes between what is before it and what is behind
pub insert_in_order : (R : ℕ → ℕ → Type 0) (xs : List ℕ) (r y : ℕ) → AllPairs R xs → r ≤ length xs
    → ((k : ℕ) → k < r → R (get_or xs k 0) y) → ((k : ℕ) → r ≤ k → k < length xs
    → R y (get_or xs k 0)) → AllPairs R (insert xs r y)
insert_in_order R xs r y apart fits before behind = λ i j d less within.
    let across = apart i (j - 1) 0 in
    let upper = apart (i - 1) (j - 1) 0 in
    grind (arith, inserted, get_or_default, apart i j 0, across, upper, before i, behind (j - 1))

order_agrees : (f g : ℕ → List ℕ) (xs : List ℕ) → All (λ x. f x ≡ g x) xs
    → AllPairs (λ p q. IsBefore (f p) (f q)) xs → AllPairs (λ p q. IsBefore (g p) (g q)) xs
order_agrees f g xs agree h = λ i j d less within. grind (arith, agree i d, agree j d, h i j d)

-- a position of a string of the section goes to its rank
pub indexed_more : (bytes positions s : List ℕ) (r p : ℕ) → IsIndexed bytes positions
    → StandsAt bytes positions s r → BeginsAt bytes p → string_from bytes p ≡ s
    → IsIndexed bytes (insert positions r p)
indexed_more bytes positions s r p table stands begins is = record {
  ended = table.ended;
  distinct = table.distinct;
  begun = All-permutation (λ q. BeginsAt bytes q) (p ∷ positions) _
      (IsPermutation-insert positions r p)
      (All-cons (λ q. BeginsAt bytes q) p positions begins table.begun);
  sorted = insert_in_order (λ p q. IsBefore (string_from bytes p) (string_from bytes q)) positions r
      p table.sorted stands.within
      (λ k below. rw is (stands.before k below))
      (λ k above within. rw is (stands.behind k above within));
}

-- a string goes last
module _ (bytes positions s : List ℕ) (table : IsIndexed bytes positions)
    (free : IsZeroFree s) where
  pub strings_push : (strings_in (bytes ++ terminated s) ≡ strings_in bytes ++ s ∷ [])
      × (data_of (strings_in (bytes ++ terminated s)) ≡ bytes ++ terminated s)
  strings_push =
      let ss = strings_in bytes in
      let each = All-push IsZeroFree ss s (zero_free-strings_in bytes) free in
      let strings = strings_in-data_of (ss ++ s ∷ []) each in
      grind (arith, table.ended, flat_map_more terminated [] ss s, strings)

  -- the others stay where they are
  stays : (p : ℕ) → BeginsAt bytes p → BeginsAt (bytes ++ terminated s) p
      × (string_from (bytes ++ terminated s) p ≡ string_from bytes p)
  stays p begins =
      let ss = strings_in bytes in
      rw (table.ended, ← strings_push.0, strings_push.1) at (begun_later ss (ss ++ s ∷ []) p
      (zero_free-strings_in bytes) table.distinct (take_at ss (s ∷ []) (length ss) refl)
      (rw table.ended begins))

  -- where it is new
  module _ (absent : Contains (strings_in bytes) s → ⊥) where
    used_new : IsPlaced (strings_in bytes) (strings_in (bytes ++ terminated s)) s (length bytes)
    used_new =
        let ss = strings_in bytes in
        grind (arith, table.ended, has_Decides ss s, offset_of-absent ss s, strings_push)

    pub indexed_push : IsIndexed (bytes ++ terminated s) positions
    indexed_push = record {
      ended = strings_push.1;
      distinct = rw strings_push.0 (distinct_push (strings_in bytes) s table.distinct absent);
      begun = λ i d within. (stays _ (table.begun i d within)).0;
      sorted = order_agrees (string_from bytes) (string_from (bytes ++ terminated s)) positions
          (λ i d within. sym (stays _ (table.begun i d within)).1) table.sorted;
    }

    -- and its position goes to its rank
    pub indexed_both : (r : ℕ) → StandsAt bytes positions s r
        → IsIndexed (bytes ++ terminated s) (insert positions r (length bytes))
    indexed_both r stands =
        let ss = strings_in bytes in
        let there = there_once_used ss s in
        let last = rw (there.1 ∙ sym used_new.0, ← used_new.1, strings_push.1)
        at (begins_there (with_string ss s) s free there.0) in
        indexed_more (bytes ++ terminated s) positions s r (length bytes) indexed_push
        (record {
          within = stands.within;
          before = λ k below. rw (stays _ (table.begun k 0 (omega (arith, below, stands.within)))).1
              (stands.before k below);
          behind = λ k above within. rw (stays _ (table.begun k 0 within)).1
              (stands.behind k above within);
        })
        last.0 last.1

-- back to the first strings
pub indexed_take : (bytes positions : List ℕ) (n m : ℕ) → IsIndexed bytes positions
    → m ≡ length (data_of (take n (strings_in bytes)))
    → (strings_in (take m bytes) ≡ take n (strings_in bytes)) × IsIndexed (take m bytes)
    (filter (λ p. ltb p m) positions)
indexed_take bytes positions n m table long =
    let ss = strings_in bytes in
    let front = take n ss in
    let back = drop n ss in
    let short = take m bytes in
    let few = filter (λ p. ltb p m) positions in
    let parts = flat_map-append terminated front back in
    let kept : data_of front ≡ short =
    grind (arith, take_at, parts, take-append-drop n ss, table.ended, long) in
    let free = All-take IsZeroFree n ss (zero_free-strings_in bytes) in
    let strings = rw kept at (strings_in-data_of front free) in
    let whole : data_of (strings_in short) ≡ short = ap data_of strings ∙ kept in
    let distinct : AllPairs (λ s t. s ≢ t) (strings_in short) = rw strings
    (λ i j d less within. grind (arith, length-take, get_or-take, table.distinct i j d less)) in
    let begun : All (λ p. BeginsAt short p) few = λ i d within.
    let low = ltb-true _ m (filter_passes (λ p. ltb p m) positions i d within) in
    let there = All-filter (λ p. ltb p m) (BeginsAt bytes) positions table.begun i d within in
    record {
      within = omega (arith, low, there.within, length-take m bytes);
      behind = λ some. grind (arith, get_or-take, there.behind, low);
    } in
    let first = rw (take-append-drop n ss, ← strings) at (take_at front back (length front) refl) in
    let agree : All (λ p. string_from bytes p ≡ string_from short p) few = λ i d within.
    rw (table.ended, whole) at (begun_later (strings_in short) ss (get_or few i d)
    (zero_free-strings_in short) distinct first (rw whole (begun i d within))).1 in (
      strings,
      record {
        ended = whole;
        distinct = distinct;
        begun = begun;
        sorted = order_agrees (string_from bytes) (string_from short) few agree
            (AllPairs-filter (λ p q. IsBefore (string_from bytes p) (string_from bytes q))
            (λ p. ltb p m) positions table.sorted);
      },
    )

pub strings_few : (ss : List (List ℕ)) → length ss ≤ length (data_of ss)
strings_few [] = omega arith
strings_few (s ∷ ss) = omega (arith, strings_few ss, length-data_of-cons s ss)

-- a string that is there
pub used_found : (ss : List (List ℕ)) (s : List ℕ) (p : ℕ) → Contains ss s → p ≡ offset_of ss s
    → IsPlaced ss ss s p
used_found ss s p there is = (is, sym (cond-true _ _ _ ((has_Decides ss s).1 there)))

-- a string that stands where it was looked for
pub used_there : (bytes positions s : List ℕ) (at : ℕ) → IsIndexed bytes positions
    → BeginsAt bytes at × (string_from bytes at ≡ s)
    → IsPlaced (strings_in bytes) (strings_in bytes) s at
used_there bytes positions s at table here =
    let known = known_offset_in bytes _ s at table here.0 here.1 in
    used_found (strings_in bytes) s at known.0 known.1

-- there are no more strings than bytes, so that one more can be counted
pub entries_few : (e : Entries) → IsHashed e → length e.bytes < 2 ^ 63
    → (e.count + 1 < 2 ^ 64) × (length e.ordered + 1 < 2 ^ 64)
entries_few e table small =
    let ended = ap length table.indexed.ended in
    let few : length (held e) ≤ length e.bytes = omega (arith, strings_few (held e), ended) in
    (omega (arith, table.counted), omega (arith, positions_few _ _ table.indexed))

module _ (e : Entries) (table : IsHashed e) where
  -- a string of the section stands where its offset says
  stands_there : (s : List ℕ) → Contains (held e) s → BeginsAt e.bytes (offset_of (held e) s)
      × (string_from e.bytes (offset_of (held e) s) ≡ s)
  stands_there s there =
      let free = All-contains IsZeroFree (held e) s (zero_free-strings_in e.bytes) there in
      let begins = begins_there (held e) s free in
      grind (arith, table.indexed.ended, begins, has_Decides (held e) s)

  -- and is found
  found_at : (s : List ℕ) → Contains (held e) s → IsFound e (hash s) (offset_of (held e) s)
  found_at s there =
      All-contains (λ t. IsFound e (hash t) (offset_of (held e) t)) (held e) s table.found there

module _ (e : Entries) (table : IsHashed e) (s : List ℕ) (h : ℕ) (is_hash : h ≡ hash s) where
  -- a string whose hash has no place isn't there, where more get one
  pub unplaced : e.places.is_full ≡ false → place_in e.places h ≡ None → Contains (held e) s → ⊥
  unplaced gets none there = grind (arith, found_at e table s there, is_hash)

  -- nor one that doesn't stand at the place of its hash, where strings don't share that
  pub misplaced : (p : ℕ) → place_in e.places h ≡ Some p → p ≢ shared
      → (BeginsAt e.bytes p × (string_from e.bytes p ≡ s) → ⊥) → Contains (held e) s → ⊥
  misplaced p has own far there =
      grind (arith, found_at e table s there, is_hash, stands_there e table s there, far)

  -- nor one that isn't among those in order, where it is looked for there
  pub unordered : (r : ℕ) → IsOrdered e.places h → StandsAt e.bytes e.ordered s r
      → Contains (held e) s → ⊥
  unordered r leads stands there =
      let here = stands_there e table s there in
      let apart : Contains e.ordered (offset_of (held e) s) → ⊥ = λ among.
      let same = get_or_default e.ordered among.0 0 (offset_of (held e) s) among.1 in
      let apart = not_before_itself s in
      grind (arith, same, here.1, apart, stands.before among.0, stands.behind among.0) in
      grind (arith, found_at e table s there, is_hash, leads, apart)

-- what is found among entries is so among others
abbrev pub Carries : Entries → Entries → Type 0
Carries e new = (g m : ℕ) → BeginsAt e.bytes m → IsFound e g m → IsFound new g m

-- the strings stay, and are found in another way
pub hashed_kept : (e new : Entries) → IsHashed e → new.bytes ≡ e.bytes
    → new.count ≡ e.count → IsIndexed e.bytes new.ordered → Carries e new → IsHashed new
hashed_kept e new table is_new is_count indexed more = record {
  indexed = rw is_new indexed;
  found = rw is_new (λ i d within. more _ _ (stands_there e table (get_or (held e) i d)
      (Contains-get_or (held e) i d within)).0 (table.found i d within));
  counted = grind (arith, is_count, table.counted, is_new);
}

-- entries with a new string behind all others
pub added : (e new : Entries) (s : List ℕ) (h n : ℕ) → IsHashed e → IsZeroFree s → h ≡ hash s
    → (Contains (held e) s → ⊥) → new.bytes ≡ e.bytes ++ terminated s
    → n ≡ length e.bytes → new.count ≡ e.count + 1
    → IsIndexed (e.bytes ++ terminated s) new.ordered → Carries e new → IsFound new h n
    → IsHashed new × IsPlaced (held e) (held new) s n
    × (take (length (held e)) (held new) ≡ held e)
added e new s h n table free is_hash absent is_new is_long is_count indexed more last =
    let ss = held e in
    let push : held new ≡ ss ++ s ∷ [] = ap strings_in is_new
    ∙ (strings_push e.bytes e.ordered s table.indexed free).0 in
    let kept : take (length ss) (held new) ≡ ss = grind (arith, push, take_at) in
    let placed : IsPlaced ss (held new) s n = rw (is_new, is_long)
    (used_new e.bytes e.ordered s table.indexed free absent) in
    let own : offset_of (held new) s ≡ n = rw placed.1 ((there_once_used ss s).1 ∙ sym placed.0) in (
      record {
        indexed = rw is_new indexed;
        found = λ i d within.
            let t = get_or (held new) i d in
            ⊎_elim
            (λ old. rw (there_later ss (held new) t kept ((has_Decides ss t).1 old)).1
            (more _ _ (stands_there e table t old).0 (found_at e table t old)))
            (λ same. rw (← same, own, ← is_hash) last)
            (Contains-push_cases ss s t (rw (← push) (Contains-get_or (held new) i d within)));
        counted = grind (arith, is_count, table.counted, push, length-append);
      },
      placed,
      kept,
    )

-- what is in a list is so when one more goes in
pub among_more : (xs : List ℕ) (r y p : ℕ) → Contains xs p → Contains (insert xs r y) p
among_more xs r y p there = Contains-permutation (y ∷ xs) (insert xs r y) p
    (IsPermutation-insert xs r y) (suc there.0, grind arith, there.2)

pub among_one : (xs : List ℕ) (r y : ℕ) → Contains (insert xs r y) y
among_one xs r y = Contains-permutation (y ∷ xs) (insert xs r y) y (IsPermutation-insert xs r y)
    (0, omega arith, refl)

-- a position of a string went to its rank, or none did
pub inserted_or : (bytes ordered s : List ℕ) (r p : ℕ) (new : List ℕ)
    (answer : Result (Unit {0}) AllocError) → IsIndexed bytes ordered → StandsAt bytes ordered s r
    → BeginsAt bytes p → string_from bytes p ≡ s → OnOk answer (new ≡ insert ordered r p)
    → OnErr answer (new ≡ ordered)
    → IsIndexed bytes new × ((q : ℕ) → Contains ordered q → Contains new q)
inserted_or bytes ordered s r p new (Ok u) table stands there is ok err =
    rw ok (indexed_more bytes ordered s r p table stands there is, among_more ordered r p)
inserted_or bytes ordered s r p new (Err e) table _ _ _ _ err = rw err (table, λ q among. among)

-- a number below a limit stays
kept_below : (xs : List ℕ) (m y : ℕ) → y < m → Contains xs y → Contains (filter (λ x. ltb x m) xs) y
kept_below xs m y below there =
    let low : ℕ → Bool = λ x. ltb x m in
    let kept = is_member-filter nat_eq_equiv low y (λ x same. ap low (eqb-true y x same)) xs in
    let among = (is_member-Decides Decides-eqb xs y).1 there in
    (is_member-Decides Decides-eqb (filter low xs) y).0
    (grind (arith, kept, among, lt-ltb y m below))

-- back to the first strings
pub hashed_take : (e new : Entries) (n m : ℕ) → IsHashed e → n ≡ length (take n (held e))
    → m ≡ length (data_of (take n (held e))) → new.bytes ≡ take m e.bytes → new.places ≡ e.places
    → new.ordered ≡ filter (λ p. ltb p m) e.ordered → new.count ≡ n → IsHashed new
hashed_take e new n m table few long is_bytes same is_ordered is_count =
    let ss = held e in
    let front = take n ss in
    let now = indexed_take e.bytes e.ordered n m table.indexed long in
    let strings : held new ≡ front = ap strings_in is_bytes ∙ now.0 in
    let kept = rw (take-append-drop n ss) at (take_at front (drop n ss) (length front) refl) in
    let found : All (λ s. IsFound new (hash s) (offset_of front s)) front = λ i d within.
    let s = get_or front i d in
    let has = (has_Decides front s).1 (Contains-get_or front i d within) in
    let later = there_later front ss s kept has in
    let here = (has_Decides ss s).0 later.0 in
    let free = All-contains IsZeroFree ss s (zero_free-strings_in e.bytes) here in
    let begins = (begins_there front s free has).0 in
    let below : offset_of ss s < m = omega (arith, begins.within, later.1, long) in
    rw (same, is_ordered, ← later.1)
    (grind (arith, found_at e table s here, kept_below e.ordered m (offset_of ss s) below)) in
    record {
      indexed = rw (is_bytes, is_ordered) now.1;
      found = rw strings found;
      counted = is_count ∙ few ∙ ap length (sym strings);
    }

pub hashed_table : (e : Entries) → IsHashed e → IsTable (held e)
hashed_table e table = search (zero_free-strings_in)
