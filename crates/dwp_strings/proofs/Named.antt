-- The strings of a section in which each is ended by a zero byte, where each begins, and its
-- offset. A string is read where its offset says, also once more strings have come. Comparing the
-- string at a place with another one, without looking for its end: by as many bytes as the other
-- has, and whether a zero follows them. Halving a sorted list of positions. The string at the front
-- of some bytes, up to the first zero.
use Rattle.{dwp_base.proofs.Bools.by-bool, memchr.specs.Find.IsFirstByte, memchr.specs.Find.is_byte}
use Rattle.std.proofs.Common.{List, [], cond, drop-drop, false, get_or-take, length-drop, ◌++◌, ◌↔◌}
use Rattle.std.proofs.Common.{None, Ok, add-one, eqb-true, length-take, refl, suc, take, zero, ◌+◌}
use Rattle.std.proofs.Common.{AllPairs, Contains, Decides, Some, ap, drop_at, eqb, length, take_at}
use Rattle.std.proofs.lemmas.List.{Folds.list_any-append, Quantifiers.all_pairs_push, get_or_past}
use Rattle.std.proofs.Common.{Greater, Less, Ordering, drop, not, take_all, true, ◌<◌, ◌∙◌, ◌≡◌}
use Rattle.std.proofs.lemmas.List.Sums.{fails_before_first, position_or_len_is, take_while-cons}
use Rattle.std.proofs.Common.{Bool, Option, get_or, get_or-append-add, length-append, ◌/◌, ◌∷◌}
use Rattle.std.proofs.lemmas.List.Elements.{All-nil, All-tail, Contains-push, Decides-contains}
use Rattle.std.proofs.lemmas.List.Elements.{All-cons, All-head, All-push, Contains-append_left}
use Rattle.std.proofs.Common.{All, Equal, arith, sym, take-append-drop, ℕ, ◌-◌, ◌^◌, ◌≢◌, ◌≤◌}
use Rattle.std.proofs.lemmas.{Bool.Decides.nat_tests, Cmp.nat_list_cmp_total, Cmp.tied_itself}
use Rattle.std.specs.{Option.is_some, Ordering.nat_cmp, Ordering.ordering_then, Str.bytes_eq}
use Rattle.std.proofs.lemmas.List.{get_or_append_left, get_or_at, get_or_default, take_rest}
use Rattle.dwp_strings.specs.Strings.{BeginsAt, IsBefore, IsZeroFree, offset_of, strings_in}
use Rattle.{dwp_strings.specs.Ends.IsFirstZero, std.proofs.lemmas.Map.Lookups.exact_bytes}
use Rattle.std.proofs.lemmas.Bool.{Decides.Decides-by_or, cases_lt, cond_both, eqb-false}
use Rattle.dwp_strings.specs.Strings.{IsTable, data_of, terminated, with_string}
use Rattle.std.specs.List.{before_first, list_any, onto_first, position_or_len}
use Rattle.std.proofs.{Common.append_assoc, lemmas.Slice.Eq.bytes_eq-Decides}
use Rattle.std.proofs.Math.{Nat.pow-suc, Seq.drop-append-add, Seq.take-suc}
use Rattle.dwp_bytes.specs.StringOffsets.{string_at, string_from}
use Rattle.std.specs.Cmp.{Lexicographic.slice_cmp, nat_cmp_is}

before_first-ended : (s xs : List ℕ) → IsZeroFree s → before_first (λ b. eqb b 0) (s ++ 0 ∷ xs) ≡ s
before_first-ended s xs free =
    let first = position_or_len_is (λ b. eqb b 0) (s ++ 0 ∷ xs) (length s) 0 in
    let before = λ (k : ℕ). free k 0 in
    grind (arith, nat_tests, first, before, get_or_at, get_or_append_left, take_at, length-append)

pub strings_in-ended : (s xs : List ℕ) → IsZeroFree s → strings_in (s ++ 0 ∷ xs) ≡ s ∷ strings_in xs
strings_in-ended [] xs free = refl
strings_in-ended (b ∷ s) xs free =
    let other = All-head (λ b. b ≢ 0) b s free in
    grind (arith, nat_tests, other, strings_in-ended s xs (All-tail (λ b. b ≢ 0) b s free))

pub data_of-cons : (s : List ℕ) (ss : List (List ℕ)) → data_of (s ∷ ss) ≡ s ++ 0 ∷ data_of ss
data_of-cons s ss = append_assoc s (0 ∷ []) (data_of ss)

pub strings_in-data_of : (ss : List (List ℕ)) → All IsZeroFree ss → strings_in (data_of ss) ≡ ss
strings_in-data_of [] free = refl
strings_in-data_of (s ∷ ss) free =
    let others = strings_in-data_of ss (All-tail IsZeroFree s ss free) in
    grind (arith, data_of-cons, strings_in-ended, All-head IsZeroFree s ss free, others)

onto_first-zero_free : (b : ℕ) (ss : List (List ℕ)) → b ≢ 0 → All IsZeroFree ss
    → All IsZeroFree (onto_first b ss)
onto_first-zero_free b [] other free = All-cons IsZeroFree (b ∷ []) [] (All-cons (λ c. c ≢ 0) b []
    other (All-nil _)) (All-nil _)
onto_first-zero_free b (s ∷ ss) other free =
    All-cons IsZeroFree (b ∷ s) ss (All-cons (λ c. c ≢ 0) b s other (All-head IsZeroFree s ss free))
    (All-tail IsZeroFree s ss free)

pub zero_free-strings_in : (bytes : List ℕ) → All IsZeroFree (strings_in bytes)
zero_free-strings_in [] = All-nil _
zero_free-strings_in (b ∷ bytes) =
    let ss = strings_in bytes in
    let rest = zero_free-strings_in bytes in
    by-bool _ (eqb b 0) (λ e. rw e (All-cons IsZeroFree [] ss (All-nil _) rest))
    (λ e. rw e (onto_first-zero_free b ss (eqb-false b 0 e) rest))

-- bytes in which one was found aren't a table's string
pub zero_within : (xs : List ℕ) (r : Option ℕ) → IsFirstByte (is_byte 0) xs r → is_some r ≡ true
    → IsZeroFree xs → ⊥
zero_within xs None h some free = cc
zero_within xs (Some end) h some free = free end 0 h.0.high (eqb-true _ 0 h.1)

pub length-data_of-cons : (s : List ℕ) (ss : List (List ℕ)) → length (data_of (s ∷ ss)) ≡ length s +
    1 + length (data_of ss)
length-data_of-cons s ss =
    omega (arith, ap length (data_of-cons s ss), length-append s (0 ∷ data_of ss))

-- whether a string is there
pub has_Decides : (ss : List (List ℕ)) (s : List ℕ)
    → Decides (list_any (λ t. bytes_eq t s) ss) (Contains ss s)
has_Decides ss s = Decides-contains ss s _ (Decides-by_or (λ t. bytes_eq t s) (λ t. t ≡ s)
    (list_any (λ t. bytes_eq t s)) (λ t. bytes_eq-Decides t s) refl (λ _ _. refl) ss)

-- a list of distinct strings to which a new one comes
pub distinct_push : (ss : List (List ℕ)) (s : List ℕ) → AllPairs (λ s t. s ≢ t) ss
    → (Contains ss s → ⊥) → AllPairs (λ s t. s ≢ t) (ss ++ s ∷ [])
distinct_push ss s distinct absent = all_pairs_push (λ s t. s ≢ t) ss s distinct
    (λ k d within same. absent (k, within, get_or_default ss k s d within ∙ same))

pub offset_of-absent : (ss : List (List ℕ)) (s : List ℕ) → list_any (λ t. bytes_eq t s) ss ≡ false
    → offset_of ss s ≡ length (data_of ss)
offset_of-absent [] s none = refl
offset_of-absent (t ∷ ss) s none = grind (arith, offset_of-absent ss s, length-data_of-cons t ss)

-- no string has its offset past the section's end
pub offset_within : (ss : List (List ℕ)) (s : List ℕ) → offset_of ss s ≤ length (data_of ss)
offset_within [] s = omega arith
offset_within (t ∷ ss) s = grind (arith, length-data_of-cons t ss, offset_within ss s)

-- a string is among those of a list
abbrev pub has : List (List ℕ) → List ℕ → Bool
has ss s = list_any (λ t. bytes_eq t s) ss

-- what is there keeps its offset, and a new one gets that which it would have
offset_kept : (ss ts : List (List ℕ)) (s : List ℕ) → (has ss s ≡ false → offset_of ts s ≡ 0)
    → offset_of (ss ++ ts) s ≡ offset_of ss s
offset_kept [] ts s first = first refl
offset_kept (t ∷ ss) ts s first = grind (arith, offset_kept ss ts s)

-- what was there is so, at its offset, in a list that begins with that one
pub there_later : (ss final : List (List ℕ)) (s : List ℕ) → take (length ss) final ≡ ss
    → has ss s ≡ true → (has final s ≡ true) × (offset_of final s ≡ offset_of ss s)
there_later ss final s kept h =
    let more = drop (length ss) final in
    let parts = take-append-drop (length ss) final in
    let front = Contains-append_left ss more s ((has_Decides ss s).0 h) in
    grind (arith, parts, (has_Decides (ss ++ more) s).1 front, offset_kept ss more s)

-- a string is there once it was used, and has the offset that it was given
pub there_once_used : (ss : List (List ℕ)) (s : List ℕ) → (has (with_string ss s) s ≡ true)
    × (offset_of (with_string ss s) s ≡ offset_of ss s)
there_once_used ss s =
    let last = (has_Decides (ss ++ s ∷ []) s).1 (Contains-push ss s) in
    grind (arith, last, (bytes_eq-Decides s s).1 refl, offset_kept ss (s ∷ []) s)

-- a table once one more string is used
pub record IsUsed (ss new : List (List ℕ)) (s : List ℕ) : Type 0 where
  pub table : IsTable new
  pub kept : take (length ss) new ≡ ss
  pub there : has new s ≡ true
  pub offset : offset_of new s ≡ offset_of ss s

pub used : (ss : List (List ℕ)) (s : List ℕ) → IsTable ss → IsZeroFree s
    → IsUsed ss (with_string ss s) s
used ss s table free =
    let there = there_once_used ss s in
    record {
      table = cond_both (has ss s) ss (ss ++ s ∷ []) IsTable (λ _. table) (λ none. record {
        distinct = distinct_push ss s table.distinct (λ h. grind (arith, (has_Decides ss s).1 h));
        zero_free = All-push IsZeroFree ss s table.zero_free free;
      });
      kept = grind (arith, take_all (length ss) ss, take_at ss (s ∷ []) (length ss));
      there = there.0;
      offset = there.1;
    }

-- a string and its end stand at its offset, and a zero before it where one stands before all
stands_there : (ss : List (List ℕ)) (s : List ℕ) → has ss s ≡ true → (rest : List ℕ)
    × (drop (offset_of ss s) (data_of ss) ≡ s ++ 0 ∷ rest)
    × (get_or (0 ∷ data_of ss) (offset_of ss s) 0 ≡ 0)
stands_there [] s h = absurd cc
stands_there (t ∷ ss) s h = by-bool _ (bytes_eq t s)
    (λ e. (data_of ss, grind (arith, bytes_eq-Decides t s, data_of-cons s ss), rw e))
    (λ e. let later = stands_there ss s (rw e at h) in
    let at = offset_of ss s in
    let past = drop_at (terminated t) (data_of ss) (length t + 1) (length-append t (0 ∷ [])) in (
      later.0,
      grind (arith, drop-drop at (length t + 1) (data_of (t ∷ ss))),
      grind (arith, data_of-cons t ss, get_or-append-add (0 ∷ t) (0 ∷ data_of ss) at 0),
    ))

-- a string begins at its offset
pub begins_there : (ss : List (List ℕ)) (s : List ℕ) → IsZeroFree s → has ss s ≡ true
    → BeginsAt (data_of ss) (offset_of ss s) × (string_from (data_of ss) (offset_of ss s) ≡ s)
begins_there ss s free h =
    let at = offset_of ss s in
    let there = stands_there ss s h in (
      record {
        within = grind (arith, length-drop at (data_of ss), length-append s (0 ∷ there.0));
        behind = λ some. grind (arith, there.2);
      },
      grind (arith, there.1, before_first-ended s there.0 free),
    )

-- what is read has no zero
pub read_free : (section : List ℕ) (at : ℕ) → IsZeroFree (string_from section at)
read_free section at = λ k d below same.
    let tail = drop at section in
    let first = position_or_len (λ b. eqb b 0) tail in
    grind (arith, length-take, get_or-take, fails_before_first (λ b. eqb b 0) tail k d)

-- what begins behind a string and its end begins so in the rest
begun_behind : (t rest : List ℕ) (p : ℕ) → IsZeroFree t → BeginsAt (terminated t ++ rest) p → p ≢ 0
    → (q : ℕ) × (p ≡ length t + 1 + q) × BeginsAt rest q
    × (string_from (terminated t ++ rest) p ≡ string_from rest q)
begun_behind t rest p free begins some =
    let q = p - (length t + 1) in
    let long = length-append t (0 ∷ []) in
    let ended : get_or (t ++ 0 ∷ rest) (p - 1) 0 ≡ 0 =
    rw append_assoc at (begins.behind (omega (arith, some))) in
    let low = get_or_append_left t (0 ∷ rest) 0 (p - 1) in
    let past : length t < p =
    grind (arith, low, ended, free (p - 1) 0, cases_lt (p - 1) (length t)) in
    let is : p ≡ length t + 1 + q = omega (arith, past) in
    let behind = get_or-append-add (terminated t) rest (q - 1) 0 in (
      q,
      is,
      record {
        within = omega (arith, begins.within, length-append (terminated t) rest, long);
        behind = λ more. grind (arith, behind, begins.behind, is, long);
      },
      grind (arith, drop-append-add (terminated t) rest q, is, long),
    )

-- a string that begins at a place is one of these, and has that offset
pub known_offset : (ss : List (List ℕ)) (p : ℕ) → All IsZeroFree ss → AllPairs (λ s t. s ≢ t) ss
    → BeginsAt (data_of ss) p → Contains ss (string_from (data_of ss) p)
    × (p ≡ offset_of ss (string_from (data_of ss) p))
known_offset [] p free apart begins = absurd (omega (arith, begins.within))
known_offset (t ∷ ss) p free apart begins = by-bool _ (eqb p 0)
    (λ first. let here : string_from (data_of (t ∷ ss)) 0 ≡ t = rw data_of-cons
    (before_first-ended t (data_of ss) (All-head IsZeroFree t ss free)) in
    rw (eqb-true p 0 first, here)
    ((0, omega arith, refl), grind (arith, bytes_eq-Decides t t)))
    (λ later. let next = begun_behind t (data_of ss) p (All-head IsZeroFree t ss free) begins
    (eqb-false p 0 later) in
    let rest = known_offset ss next.0 (All-tail IsZeroFree t ss free)
    (λ i j d less within. apart (suc i) (suc j) d (omega arith) (omega arith)) next.2 in
    let s = string_from (data_of ss) next.0 in
    let other = apart 0 (suc rest.0.0) s (omega arith) (omega (arith, rest.0.1)) in
    rw next.3 (
      (suc rest.0.0, omega (arith, rest.0.1), rest.0.2),
      grind (arith, next.1, rest.1, rest.0.2, bytes_eq-Decides t s, other),
    ))

-- and is so in a list that begins with these
pub begun_later : (ss final : List (List ℕ)) (p : ℕ) → All IsZeroFree ss
    → AllPairs (λ s t. s ≢ t) ss → take (length ss) final ≡ ss → BeginsAt (data_of ss) p
    → BeginsAt (data_of final) p × (string_from (data_of final) p ≡ string_from (data_of ss) p)
begun_later ss final p free apart kept begins =
    let s = string_from (data_of ss) p in
    let known = known_offset ss p free apart begins in
    let there = there_later ss final s kept ((has_Decides ss s).1 known.0) in
    rw (there.1 ∙ sym known.1) at (begins_there final s (read_free (data_of ss) p) there.0)

-- a table that begins with these strings has its strings at their offsets
pub read_later : (ss final : List (List ℕ)) (s : List ℕ) → take (length ss) final ≡ ss
    → IsZeroFree s → has ss s ≡ true → string_at (data_of final) (offset_of ss s) ≡ Ok s
unfolding string_at
read_later ss final s kept free h =
    let there = there_later ss final s kept h in
    let begins = begins_there final s free there.0 in
    let stands = stands_there final s there.0 in
    grind (arith, list_any-append (λ b. eqb b 0) s (0 ∷ stands.0))

-- a string that was read is the one there
pub string_was : (bytes s : List ℕ) (at : ℕ) → string_at bytes at ≡ Ok s → string_from bytes at ≡ s
unfolding string_at
string_was bytes s at is = grind arith

-- the string at the front of some bytes
abbrev pub front_string : List ℕ → List ℕ
front_string xs = before_first (λ b. eqb b 0) xs

pub front_string-cons : (x : ℕ) (xs : List ℕ) → front_string (x ∷ xs) ≡ cond (not (eqb x 0))
    (x ∷ front_string xs) []
front_string-cons x xs = take_while-cons (λ b. not (eqb b 0)) x xs

then-assoc : (a b c : Ordering) → ordering_then a (ordering_then b c) ≡ ordering_then
    (ordering_then a b) c
then-assoc a b c = grind arith

-- how as many bytes as a string has, and what follows them, stand to it and a zero
abbrev pub beside : List ℕ → List ℕ → Ordering
beside xs s = ordering_then (slice_cmp nat_cmp (take (length s) xs) s)
    (nat_cmp (get_or xs (length s) 0) 0)

compared_front : (xs s : List ℕ) → IsZeroFree s → slice_cmp nat_cmp (front_string xs) s
    ≡ beside xs s
compared_front [] s free = grind arith
compared_front (x ∷ xs) [] free =
    let cmp = nat_cmp_is x 0 in
    rw (front_string-cons x xs) (grind (arith, nat_tests, cmp Greater, cmp Equal))
compared_front (x ∷ xs) (y ∷ ys) free =
    let rest = compared_front xs ys (All-tail (λ b. b ≢ 0) y ys free) in
    let some : y ≢ 0 = All-head (λ b. b ≢ 0) y ys free in
    rw (front_string-cons x xs)
    (grind (arith, nat_tests, rest, nat_cmp_is x y Less, then-assoc (nat_cmp x y)))

module _ (bytes : List ℕ) (at : ℕ) (s : List ℕ) (free : IsZeroFree s) where
  -- the bytes from a place on, as they are taken
  abbrev rest : List ℕ
  rest = take (length bytes - at) (drop at bytes)

  pub compared_at : beside rest s ≡ slice_cmp nat_cmp (string_from bytes at) s
  compared_at = rw (take_rest bytes at) (sym (compared_front (drop at bytes) s free))

  -- where no more bytes are left
  pub compared_short : length rest ≤ length s
      → slice_cmp nat_cmp rest s ≡ slice_cmp nat_cmp (string_from bytes at) s
  compared_short short = grind (arith, compared_at, take_all, get_or_past)

  -- whether it is the same one
  pub alike_at : ((take (length s) rest ≡ s) × (get_or rest (length s) 0 ≡ 0))
      ↔ (string_from bytes at ≡ s)
  alike_at =
      let own = tied_itself nat_list_cmp_total s in
      let last = nat_cmp_is (get_or rest (length s) 0) 0 Equal in (
        λ both. exact_bytes _ s (grind (arith, compared_at, own)),
        λ same. grind (arith, nat_tests, compared_at, exact_bytes, own, last),
      )

-- a window of a search after so many steps, in a list of n: each step took off a digit
abbrev pub IsHalved : ℕ → ℕ → ℕ → Type 0
IsHalved n steps size = (k : ℕ) → n < 2 ^ k → (steps ≤ k) × (size < 2 ^ (k - steps))

pub halved_more : (n steps size rest : ℕ) → IsHalved n steps size → 0 < size → rest ≤ size / 2
    → IsHalved n (steps + 1) rest
halved_more n steps size rest so_far some less = λ k h.
    grind (arith, so_far k h, pow-suc 2 (k - (steps + 1)), cases_lt steps k)

module _ (bytes positions s : List ℕ) (m : ℕ) (sorted : AllPairs (λ p q.
    IsBefore (string_from bytes p) (string_from bytes q)) positions) where
  -- what lies before a string that comes before another comes before that too
  pub before_more : m < length positions → IsBefore (string_from bytes (get_or positions m 0)) s
      → (k : ℕ) → k < m + 1 → IsBefore (string_from bytes (get_or positions k 0)) s
  before_more within less = λ k below.
      let middle = string_from bytes (get_or positions m 0) in
      let next = nat_list_cmp_total.trans (string_from bytes (get_or positions k 0)) middle s in
      grind (arith, sorted k m 0, next)

  pub behind_more : slice_cmp nat_cmp (string_from bytes (get_or positions m 0)) s ≡ Greater
      → (k : ℕ) → m ≤ k → k < length positions
      → IsBefore s (string_from bytes (get_or positions k 0))
  behind_more greater = λ k above within.
      let middle = string_from bytes (get_or positions m 0) in
      let next = nat_list_cmp_total.trans s middle (string_from bytes (get_or positions k 0)) in
      grind (arith, sorted m k 0, nat_list_cmp_total.antisymm s middle, next)

-- no byte of it is zero
pub ended_free : (rest : List ℕ) (end : ℕ) → IsFirstZero rest end → IsZeroFree (take end rest)
ended_free rest end is_zero = λ k d below same.
    grind (arith, length-take, is_zero.before k, get_or_default rest k 0 d, get_or-take)

-- what stands behind a zero doesn't matter
pub front_cut : (xs : List ℕ) (end : ℕ) → end < length xs → get_or xs end 0 ≡ 0
    → front_string (take end xs) ≡ front_string xs
front_cut [] end within is_zero = absurd (omega arith)
front_cut (x ∷ xs) zero within is_zero = grind (arith, front_string-cons)
front_cut (x ∷ xs) (suc end) within is_zero = grind (arith, front_string-cons, front_cut xs end)

-- the first zero ends it
pub ended_front : (xs : List ℕ) (end : ℕ) → IsFirstZero xs end → front_string xs ≡ take end xs
ended_front xs end is_zero =
    let first = position_or_len_is (λ b. eqb b 0) xs end 0 in
    grind (arith, nat_tests, first, is_zero)

-- a string and the zero behind it
pub ended_take : (rest : List ℕ) (end : ℕ) → IsFirstZero rest end → take (end + 1) rest ≡
    terminated (take end rest)
ended_take rest end is_zero = grind (arith, add-one, take-suc rest end 0, is_zero)
