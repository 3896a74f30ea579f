-- Texts in a string table: what `memchr` and `from_utf8` say of them, and whether one is a text
-- that is given, by as much of it as that is long.
use Rattle.dwp_base.proofs.{Bools.by-bool, EveryKind.every}
use Rattle.dwp_base.specs.Sections.{all_kinds, compressed_name_of, kind_named, name_of}
use Rattle.dwp_base.{proofs.Finds.position_is, specs.declared.section.SectionKind.SectionKind}
use Rattle.dwp_elf_read.specs.Elf.{has_name, name_is, text_at, text_of}
use Rattle.memchr.specs.Find.{is_byte, IsFirstByte}
use Rattle.std.proofs.Common.{Bool, drop, Err, find, List, MatchResult, None, not, refl, Some, take}
use Rattle.std.proofs.Common.{ap, arith, false, Ok, sym, true, ℕ, ◌<◌, ◌==◌, ◌∙◌, ◌≡◌}
use Rattle.std.proofs.Common.{get_or, is_some, length, nat_lt, Option, option_map, position, Result}
use Rattle.std.proofs.lemmas.Bool.{eqb-true, false_from_ne_true, lt-ltb, ltb-false}
use Rattle.std.proofs.lemmas.List.Sums.{fails_before_first, position_or_len_is}
use Rattle.std.proofs.lemmas.List.{drop_all, get_or-take, length-take-le, Quantifiers.position-Some}
use Rattle.std.proofs.lemmas.Str.{is_utf8-from_IsUtf8, IsUtf8-from_is_utf8}
use Rattle.std.specs.{List.position_or_len, Result.result_ok, Str.bytes_eq, Str.is_utf8, Str.IsUtf8}
use Rattle.std.{proofs.lemmas.Slice.Eq.bytes_eq-Decides, specs.Option.option_and_then}

-- what `from_utf8` answers, its error left out
pub text_of_result : {T E : Type 0} (view : T → List ℕ) (F : E → Type 0) (bytes : List ℕ)
    (r : Result T E) → MatchResult r (λ s. (view s ≡ bytes) × IsUtf8 bytes) (λ e. (¬ IsUtf8 bytes)
    × F e) → option_map view (result_ok r) ≡ text_of bytes
unfolding text_of
text_of_result view F bytes (Ok s) h = rw (h.0, is_utf8-from_IsUtf8 bytes h.1) refl
text_of_result view F bytes (Err e) h =
    rw (false_from_ne_true (is_utf8 bytes) (λ e. h.0 (IsUtf8-from_is_utf8 bytes e))) refl

pub text_at_first : (table rest : List ℕ) (place : ℕ) (r : Option ℕ) → rest ≡ drop place table
    → IsFirstByte (is_byte 0) rest r → text_at table place ≡ option_and_then (λ n.
    text_of (take n rest)) r
unfolding text_at
text_at_first table rest place r here h = rw (← here, position_is 0 rest r h) refl

abbrev zero_byte : ℕ → Bool
zero_byte b = b == 0

-- the text before the first zero byte
abbrev first_text : List ℕ → Option ℕ → Option (List ℕ)
first_text bytes end = option_and_then (λ n. text_of (take n bytes)) end

-- a text without one has none at a place
none_at : (text : List ℕ) (k : ℕ) → position zero_byte text ≡ None → k < length text
    → zero_byte (get_or text k 0) ≡ false
none_at text k =
    by-bool (position zero_byte text ≡ None → k < length text → zero_byte (get_or text k 0) ≡ false)
    (nat_lt (position_or_len zero_byte text) (length text))
    (λ yes. rw yes (λ whole below. absurd cc))
    (λ no whole below. fails_before_first zero_byte text k 0
    (omega (arith, below, ltb-false _ _ no)))

-- a text of another length is another
other_text : (own text : List ℕ) → (length own ≡ length text → ⊥) → name_is text (text_of own)
    ≡ false
unfolding text_of
other_text own text differs = by-bool _ (is_utf8 own)
    (λ yes. rw yes (false_from_ne_true (bytes_eq own text) (λ same.
    differs (ap length ((bytes_eq-Decides own text).0 same)))))
    (λ no. rw no refl)

-- nor is it a text behind which no zero byte stands
unended_text : (bytes text : List ℕ) (end : Option ℕ) → position zero_byte bytes ≡ end
    → (length text < length bytes → get_or bytes (length text) 0 ≡ 0 → ⊥)
    → false ≡ name_is text (first_text bytes end)
unended_text bytes text None is other = refl
unended_text bytes text (Some n) is other =
    let found = position-Some zero_byte bytes n 0 is in
    let size = length-take-le n bytes (omega (arith, found.0)) in
    sym (other_text (take n bytes) text (λ same.
    let here : n ≡ length text = omega (arith, same, size) in
    other (omega (arith, here, found.0)) (rw (← here) (eqb-true (get_or bytes n 0) 0 found.1))))

pub no_end : (table rest text : List ℕ) (place : ℕ) → rest ≡ drop place table
    → (length text < length rest → get_or rest (length text) 0 ≡ 0 → ⊥)
    → false ≡ name_is text (text_at table place)
unfolding text_at
no_end table rest text place here other = rw (← here) (unended_text rest text _ refl other)

-- nor one that isn't what stands before it
unlike_text : (bytes text : List ℕ) (end : Option ℕ) → position zero_byte bytes ≡ end
    → (take (length text) bytes ≡ text → ⊥) → name_is text (first_text bytes end) ≡ false
unfolding text_of
unlike_text bytes text None is other = refl
unlike_text bytes text (Some n) is other =
    let found = position-Some zero_byte bytes n 0 is in
    by-bool _ (is_utf8 (take n bytes))
    (λ yes. rw yes (false_from_ne_true (bytes_eq (take n bytes) text) (λ same.
    let own : take n bytes ≡ text = (bytes_eq-Decides (take n bytes) text).0 same in
    let taken = length-take-le n bytes (omega (arith, found.0)) in
    let size : n ≡ length text = omega (arith, taken, ap length own) in
    other (rw (← size) own))))
    (λ no. rw no refl)

-- where bytes begin with a text without a zero byte, and one behind it, that is the first
position_at : (bytes text : List ℕ) → position zero_byte text ≡ None → length text < length bytes
    → get_or bytes (length text) 0 ≡ 0 → take (length text) bytes ≡ text
    → position zero_byte bytes ≡ Some (length text)
position_at bytes text whole within nul same =
    let n = length text in
    let first = position_or_len_is zero_byte bytes n 0 (omega (arith, within))
    (λ k below. ap zero_byte (sym (get_or-take n bytes k 0 below) ∙ ap (λ own. get_or own k 0) same)
    ∙ none_at text k whole below) (λ _. ap zero_byte nul) in
    rw (first, lt-ltb n (length bytes) within) refl

-- one that is, up to the first zero byte
ended_text : (bytes text : List ℕ) → position zero_byte text ≡ None → is_utf8 text ≡ true
    → length text < length bytes → get_or bytes (length text) 0 ≡ 0
    → take (length text) bytes ≡ text
    → name_is text (first_text bytes (position zero_byte bytes)) ≡ true
unfolding text_of
ended_text bytes text whole valid within nul same =
    let end = position_at bytes text whole within nul same in
    rw (end, same, valid) ((bytes_eq-Decides text text).1 refl)

-- what a look at the table gives, where a zero byte stands behind as many bytes as the text has
pub by_bytes : (table rest front own text : List ℕ) (place : ℕ) (same : Bool)
    → rest ≡ drop place table → front ≡ take (length text) rest → own ≡ text
    → same ≡ bytes_eq front own → length text < length rest → get_or rest (length text) 0 ≡ 0
    → is_utf8 text ≡ true
    → (position zero_byte text ≡ None → same ≡ name_is text (text_at table place))
    × (same ≡ false → name_is text (text_at table place) ≡ false)
unfolding text_at
by_bytes table rest front own text place same here begins given eq within nul valid =
    let decides = bytes_eq-Decides (take (length text) rest) text in
    let told : same ≡ bytes_eq (take (length text) rest) text = rw (← begins, ← given) eq in
    by-bool _ (bytes_eq (take (length text) rest) text)
    (λ e.
    let yes : same ≡ true = told ∙ e in (
      λ whole. rw (yes, ← here) (sym (ended_text rest text whole valid within nul (decides.0 e))),
      λ f. let bad : true ≡ false = sym yes ∙ f in absurd cc,
    ))
    (λ e.
    let differs : name_is text (text_at table place) ≡ false = rw (← here) (unlike_text rest text _
    refl (λ it. let bad : true ≡ false = sym (decides.1 it) ∙ e in absurd cc)) in
    (λ _. told ∙ e ∙ sym differs, λ _. differs))

-- the text before a zero byte has none
whole_text : (bytes text : List ℕ) (end : Option ℕ) → position zero_byte bytes ≡ end
    → name_is text (first_text bytes end) ≡ true → (k : ℕ) → k < length text
    → zero_byte (get_or text k 0) ≡ false
unfolding text_of
whole_text bytes text None is = λ named k below. absurd cc
whole_text bytes text (Some n) is =
    let found = position-Some zero_byte bytes n 0 is in
    by-bool (name_is text (text_of (take n bytes)) ≡ true → (k : ℕ) → k < length text
    → zero_byte (get_or text k 0) ≡ false) (is_utf8 (take n bytes))
    (λ yes. rw yes (λ named k below.
    let own : take n bytes ≡ text = (bytes_eq-Decides (take n bytes) text).0 named in
    let taken = length-take-le n bytes (omega (arith, found.0)) in
    let size : length text ≡ n = omega (arith, taken, ap length own) in
    let at : k < n = omega (arith, below, size) in
    ap zero_byte (ap (λ it. get_or it k 0) (sym own) ∙ get_or-take n bytes k 0 at) ∙ found.2 k at))
    (λ no. rw no (λ named. absurd cc))

pub with_zero : (table text : List ℕ) (place k : ℕ) → k < length text
    → zero_byte (get_or text k 0) ≡ true → false ≡ name_is text (text_at table place)
unfolding text_at
with_zero table text place k below nul =
    let none = whole_text (drop place table) text _ refl in
    sym (false_from_ne_true (name_is text (text_at table place)) (λ named.
    let bad : true ≡ false = sym nul ∙ none named k below in absurd cc))

-- so a text without one that stands there is the name
pub without_zero : (table text own : List ℕ) (place : ℕ) (found : Option ℕ) (stands none : Bool)
    → own ≡ text → IsFirstByte (is_byte 0) own found → is_some found ≡ not none → stands ≡ true
    → (position zero_byte text ≡ None → stands ≡ name_is text (text_at table place))
    → none ≡ name_is text (text_at table place)
without_zero table text own place None stands true same first is given exact =
    sym given ∙ exact (ap (position zero_byte) (sym same) ∙ position_is 0 own None first)
without_zero table text own place None stands false same first is given exact = absurd cc
without_zero table text own place (Some i) stands true same first is given exact = absurd cc
without_zero table text own place (Some i) stands false same first is given exact =
    with_zero table text place i (rw (← same) first.0.high) (rw (← same) first.1)

-- past the end of the table there is no text
pub no_text : (table text : List ℕ) (place : ℕ) → length table < place → false ≡ name_is text
    (text_at table place)
unfolding text_at
no_text table text place past = rw (drop_all place table (omega arith)) refl

none_first : (found : Option ℕ) → not (is_some found) ≡ true → found ≡ None
none_first None e = refl
none_first (Some n) e = absurd cc

-- no name of a kind has a zero byte
pub no_zero : (kind : SectionKind) → position zero_byte (name_of kind) ≡ None
no_zero kind = none_first _ (every (λ k. not (is_some (position zero_byte (name_of k)))) refl kind)

pub no_zero_older : (kind : SectionKind) → position zero_byte (compressed_name_of kind) ≡ None
no_zero_older kind =
    none_first _ (every (λ k. not (is_some (position zero_byte (compressed_name_of k)))) refl kind)

-- the kind that a name belongs to is the first that has it
pub kinds_are : (name : Option (List ℕ))
    → find (λ kind. has_name kind name) all_kinds ≡ option_and_then kind_named name
kinds_are None = refl
kinds_are (Some own) = refl
