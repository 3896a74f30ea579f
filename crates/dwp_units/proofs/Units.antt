-- A unit's bytes are those that stood before the rest, and its entries lie in them behind the
-- header; the units of a section one after the other.
use Rattle.dwp_units.proofs.Terms
use Rattle.dwp_bytes.specs.Input.{after, is_address_size, offset_at}
use Rattle.dwp_units.proofs.Readings.{Answer, by_step, goes_none, goes_some, test_gives, then_gives}
use Rattle.dwp_units.proofs.Readings.{Gives, goes_then, number_goes, Steps, then_split, value_gives}
use Rattle.dwp_units.proofs.Readings.{after-after, after-zero, error_gives, goes_after, goes_length}
use Rattle.dwp_units.proofs.Readings.{by-result, goes_least, more_gives, reads_byte, relocated_goes}
use Rattle.dwp_units.specs.Units.{address_size_at, header_at, initial_length_at, newer_at, UnitsLie}
use Rattle.dwp_units.specs.Units.{listed, type_at, unit_at, unit_of, unit_seen, units, units_within}
use Rattle.dwp_units.specs.Units.{older_type_at, unit_bytes, unit_code_at, unit_type_at, units_left}
use Rattle.dwp_units.specs.declared.unit.UnitSection.TheVariants.{Info, Types}
use Rattle.dwp_units.specs.declared.unit.{UnitHeader.UnitHeader, UnitType.UnitType}
use Rattle.dwp_units.specs.declared.unit.{UnitHeaders.UnitHeaders, UnitSection.UnitSection}
use Rattle.dwp_units.{proofs.Readings.goes, proofs.Readings.size, specs.Units.older_at}
use Rattle.std.proofs.lemmas.{Bool.Decides.nat_tests, List.Concat.flat_map-cons}
use Rattle.{dwp_base.specs.Reading.Reads, dwp_bytes.specs.Encoding.offset_size}
use Terms.{ap, Ok, [], ℕ, ◌++◌, ◌+◌, ◌-◌, ◌<◌, ◌∙◌, ◌∷◌, ◌≡◌, ◌≤◌}
use Terms.{append-nil, cond, drop, eqb, Err, Goes, leb, List, ltb, map, refl, sym, true, Unit, ◌&&◌}
use Terms.{append_assoc, flat_map, length-append, length-take-le, nil_from_length, take-append-drop}
use Terms.{arith, drop-take, false, Format, front, Input, is_err, length, ne_eqb, ReadError, Result}

-- what was read leaves what stands behind it
abbrev pub Onward : (A : Type 0) → Input → Answer A → Type 0
Onward A i r = Gives (A × Input) r (λ x. Goes 0 i x.1)

-- ---- the parts of a header

initial_length_goes : (i : Input)
    → Gives ((Format × ℕ) × Input) (initial_length_at i) (λ x. Goes 4 i x.1)
unfolding initial_length_at
initial_length_goes i = then_gives (number_goes 4 i) (λ n p. test_gives (ltb n.0 0xfffffff0)
    (λ _. value_gives p)
    (λ _. test_gives (eqb n.0 0xffffffff)
    (λ _. then_gives (number_goes 8 n.1) (λ m q. value_gives (goes_then p q)))
    (λ _. error_gives)))

offset_goes : (format : Format) (i : Input) → Onward ℕ i (offset_at format i)
unfolding offset_at
offset_goes format i = more_gives (relocated_goes (offset_size format) i) (λ x p. goes_some p)

address_size_goes : (i : Input) → Onward ℕ i (address_size_at i)
unfolding address_size_at
address_size_goes i = then_gives (goes reads_byte i) (λ n p. test_gives (is_address_size n.0)
    (λ _. value_gives (goes_some p)) (λ _. error_gives))

type_goes : (format : Format) (i : Input) → Onward (ℕ × ℕ) i (type_at format i)
unfolding type_at
type_goes format i = then_gives (number_goes 8 i) (λ signature p. then_gives
    (offset_goes format signature.1) (λ offset q. value_gives (goes_some (goes_then p q))))

older_type_goes : (section : UnitSection) (format : Format) (i : Input)
    → Onward UnitType i (older_type_at section format i)
unfolding older_type_at
older_type_goes Info format i = value_gives goes_none
older_type_goes Types format i = then_gives (type_goes format i) (λ t p. value_gives p)

unit_code_goes : (i : Input) → Onward ℕ i (unit_code_at i)
unfolding unit_code_at
unit_code_goes i = then_gives (goes reads_byte i) (λ n p. test_gives (leb 1 n.0 && leb n.0 6)
    (λ _. value_gives (goes_some p)) (λ _. error_gives))

unit_type_goes : (code : ℕ) (format : Format) (i : Input)
    → Onward UnitType i (unit_type_at code format i)
unfolding unit_type_at
unit_type_goes code format i =
    let numbered = number_goes 8 i in
    let typed = type_goes format i in
    test_gives (eqb code 1) (λ _. value_gives goes_none)
    (λ _. test_gives (eqb code 2) (λ _. then_gives typed (λ t p. value_gives p))
    (λ _. test_gives (eqb code 3) (λ _. value_gives goes_none)
    (λ _. test_gives (eqb code 4) (λ _. then_gives numbered (λ n p. value_gives (goes_some p)))
    (λ _. test_gives (eqb code 5) (λ _. then_gives numbered (λ n p. value_gives (goes_some p)))
    (λ _. then_gives typed (λ t p. value_gives p))))))

-- ---- a header

-- a unit has all of its bytes, and its entries lie in those that are read
abbrev Heads : Input → Input → Unit → Type 0
Heads whole i u = (u.whole ≡ whole) × Goes 0 i u.entries

older_heads : (section : UnitSection) (format : Format) (version : ℕ) (whole i : Input)
    → Gives Unit (older_at section format version whole i) (Heads whole i)
unfolding older_at
older_heads section format version whole i = then_gives (offset_goes format i) (λ a p. then_gives
    (address_size_goes a.1) (λ b q. then_gives (older_type_goes section format b.1) (λ t r.
    value_gives (refl, goes_then p (goes_then q r)))))

newer_heads : (format : Format) (whole i : Input)
    → Gives Unit (newer_at format whole i) (Heads whole i)
unfolding newer_at
newer_heads format whole i = then_gives (unit_code_goes i) (λ code p. then_gives
    (address_size_goes code.1) (λ a q. then_gives (offset_goes format a.1) (λ b r. then_gives
    (unit_type_goes code.0 format b.1) (λ t s.
    value_gives (refl, goes_then p (goes_then q (goes_then r s)))))))

header_heads : (section : UnitSection) (format : Format) (whole i : Input)
    → Gives Unit (header_at section format whole i) (Heads whole i)
unfolding header_at
header_heads section format whole i = then_gives (number_goes 2 i) (λ version p. test_gives
    (eqb version.0 5)
    (λ _. more_gives (newer_heads format whole version.1) (λ u h.
    (h.0, goes_some (goes_then p h.1))))
    (λ _. test_gives (leb 2 version.0 && leb version.0 4)
    (λ _. more_gives (older_heads section format version.0 whole version.1) (λ u h.
    (h.0, goes_some (goes_then p h.1))))
    (λ _. error_gives)))

-- ---- a unit

-- what lies behind some bytes of the front
front_goes : (k n : ℕ) (i : Input) → k + n ≤ length i.bytes
    → Goes 0 (front (k + n) i) (front n (after k i))
front_goes k n i fits = record {
  taken = k;
  some = omega arith;
  enough = omega (arith, length-take-le (k + n) i.bytes fits);
  is = ap (λ (bytes : List ℕ). record i { place = i.place + k; bytes = bytes })
      (sym (drop-take k n i.bytes));
}

-- a unit takes at least a byte, its bytes are those that it takes, and its entries lie in them
pub record TakesUnit (i : Input) (p : Unit × Input) : Type 0 where
  pub goes : Goes 1 i p.1
  pub whole : p.0.whole ≡ front goes.taken i
  pub inside : Goes 0 p.0.whole p.0.entries

unit_made : (i j : Input) (u : Unit) (n : ℕ) → Goes 4 i j → n ≤ length j.bytes
    → Heads (front ((after n j).place - i.place) i) (front n j) u → TakesUnit i (u, after n j)
unit_made i j u n first fits heads =
    let both = goes_then first (goes_after n fits) in
    let size : (after n j).place - i.place ≡ first.taken + n =
    omega (arith, ap (λ (x : Input). x.place) first.is) in
    let whole : u.whole ≡ front (first.taken + n) i = rw size at heads.0 in
    record {
      goes = goes_least (omega arith) both;
      whole = whole;
      inside = goes_then (rw (whole, first.is) (front_goes first.taken n i both.enough)) heads.1;
    }

pub unit_takes : (section : UnitSection) (i : Input)
    → Gives (Unit × Input) (unit_at section i) (TakesUnit i)
unfolding unit_at
unit_takes section i = then_gives (initial_length_goes i) (λ length first. then_split _
    length.0.1 length.1 (λ fits.
    then_split _ _ i (λ _. then_gives (header_heads section length.0.0 _ _)
    (λ u heads. value_gives (unit_made i length.1 u length.0.1 first fits heads)))))

-- a unit that is read goes forward, and is the bytes that it takes
pub unit_taken : (section : UnitSection) (i rest : Input) (u : Unit)
    → unit_at section i ≡ Ok (u, rest) → (goes : Goes 1 i rest) × (u.whole ≡ front goes.taken i)
unit_taken section i rest u e =
    let takes = (unit_takes section i).gives (u, rest) e in (takes.goes, takes.whole)

-- ---- what was read and others behind it

pub listed_ok : {A E : Type 0} (r : Result (A × Input) E) (others : Input → List (Result A E))
    (x : A) (l : List (Result A E)) → listed r others ≡ Ok x ∷ l
    → (rest : Input) × (r ≡ Ok (x, rest)) × (others rest ≡ l)
listed_ok (Ok y) others x l e = (y.1, let same : y.0 ≡ x = cc in rw (← same) refl, cc)
listed_ok (Err f) others x l e = absurd cc

pub listed_error : {A E : Type 0} (r : Result (A × Input) E) (others : Input → List (Result A E))
    (f : E) (l : List (Result A E)) → listed r others ≡ Err f ∷ l → r ≡ Err f
listed_error (Ok x) others f l e = absurd cc
listed_error (Err g) others f l e = cc

-- ---- the units of a section

-- a unit leaves less
unit_shorter : (section : UnitSection) (i : Input) (p : Unit × Input) → unit_at section i ≡ Ok p
    → length p.1.bytes < length i.bytes
unit_shorter section i p e = let left = goes_length ((unit_takes section i).gives p e).goes in
    omega arith

unit_steps : (section : UnitSection) → Steps size (λ n i. units_within n section i)
    (λ others i. cond (eqb (length i.bytes) 0) [] (listed (unit_at section i) others))
unfolding units_within
unit_steps section = record {
  none = λ others i e. rw e refl;
  next = λ n i. refl;
  alike = λ f g i same. ap (cond (eqb (length i.bytes) 0) []) (by-result _ (unit_at section i)
      (λ x e. rw (e, same x.1 (unit_shorter section i x e)) refl) (λ e h. rw h refl));
}

-- the units by cases: the end, the first error, a unit and those after it
pub units-cases : (section : UnitSection) (i : Input)
    → units section i ≡ (cond (eqb (length i.bytes) 0) [] (listed (unit_at section i)
    (units section)))
unfolding units
units-cases section i = by_step (unit_steps section) i

-- what an iterator gives first, and what is left after it
pub first_unit : {R : Type 0} (input : R → Input) (section : UnitSection) (i j : Input)
    (r : Result (UnitHeader R) ReadError) → eqb (length i.bytes) 0 ≡ false → Reads (unit_of input) r
    i j (unit_at section)
    → units section i ≡ unit_seen input r ∷ cond (is_err r) [] (units section j)
first_unit input section i j (Ok h) some reads = units-cases section i ∙ rw (some, reads) refl
first_unit input section i j (Err f) some reads = units-cases section i ∙ rw (some, reads.0) refl

-- nothing is left at the end
pub nothing_left : {R : Type 0} (input : R → Input) (h : UnitHeaders R)
    → eqb (length (input h.reader).bytes) 0 ≡ true → units_left input h ≡ []
nothing_left input h e = grind (arith, units-cases h.section (input h.reader))

-- ---- the bytes of the units, joined

-- a list that isn't empty stands where a byte is left
some_listed : (section : UnitSection) (i : Input) (x : Result Unit ReadError)
    (l : List (Result Unit ReadError)) → units section i ≡ x ∷ l → listed (unit_at section i)
    (units section) ≡ x ∷ l
some_listed section i x l e = grind (arith, units-cases section i)

-- what was taken and the rest are all that was there
taken_bytes : (i rest whole : Input) (goes : Goes 1 i rest) → whole ≡ front goes.taken i
    → (whole.bytes ++ rest.bytes ≡ i.bytes) × (rest ≡ after (length whole.bytes) i)
taken_bytes i rest whole goes is = (
  rw (is, goes.is) (take-append-drop goes.taken i.bytes),
  rw (is, length-take-le goes.taken i.bytes goes.enough) goes.is,
)

-- behind the units that were read stands what the others are read from
pub units_behind : (section : UnitSection) (read : List Unit)
    (others : List (Result Unit ReadError)) (i : Input) → units section i ≡ map Ok read ++ others
    → (rest : Input) × (flat_map unit_bytes read ++ rest.bytes ≡ i.bytes)
    × (units section rest ≡ others) × (rest ≡ after (length (flat_map unit_bytes read)) i)
units_behind section [] others i e = (i, refl, e, sym (after-zero i))
units_behind section (u ∷ us) others i e =
    let x = listed_ok (unit_at section i) (units section) u (map Ok us ++ others)
    (some_listed section i (Ok u) (map Ok us ++ others) e) in
    let takes = (unit_takes section i).gives (u, x.0) x.1 in
    let first = taken_bytes i x.0 u.whole takes.goes takes.whole in
    let r = units_behind section us others x.0 x.2 in (
      r.0,
      rw (flat_map-cons unit_bytes u us, append_assoc) (rw (← r.1) at first.0),
      r.2,
      rw (flat_map-cons unit_bytes u us, length-append) (r.3 ∙ ap (after
          (length (flat_map unit_bytes us))) first.1 ∙ after-after (length u.whole.bytes)
          (length (flat_map unit_bytes us)) i),
    )

-- no unit stands where no byte is left
no_byte : (section : UnitSection) (i : Input) → units section i ≡ [] → i.bytes ≡ []
no_byte section i e = grind (arith, nat_tests, units-cases section i, nil_from_length i.bytes)

pub units_whole : (section : UnitSection) (i : Input) (read : List Unit) → units section i ≡ map Ok
    read → flat_map unit_bytes read ≡ i.bytes
units_whole section i read e =
    let r = units_behind section read [] i (e ∙ sym (append-nil (map Ok read))) in
    rw (no_byte section r.0 r.2, append-nil) at r.1

pub units_error : (section : UnitSection) (i : Input) (read : List Unit) (f : ReadError)
    → units section i ≡ map Ok read ++ Err f ∷ []
    → (flat_map unit_bytes read ++ drop (length (flat_map unit_bytes read)) i.bytes ≡ i.bytes)
    × (unit_at section (after (length (flat_map unit_bytes read)) i) ≡ Err f)
units_error section i read f e =
    let r = units_behind section read (Err f ∷ []) i e in
    let error = listed_error (unit_at section r.0) (units section) f [] (some_listed section r.0
    (Err f) [] r.2) in (rw r.3 at r.1, rw r.3 at error)

-- ---- the one list

-- a unit stands where a byte is left
some_byte : (section : UnitSection) (i : Input) (x : Unit × Input) → unit_at section i ≡ Ok x
    → eqb (length i.bytes) 0 ≡ false
some_byte section i x e = let shorter = unit_shorter section i x e in ne_eqb (length i.bytes) 0
    (λ none. absurd (omega (arith, shorter)))

pub lie_read : (section : UnitSection) (us : List Unit) (i : Input) → UnitsLie section i us
    → units section i ≡ map Ok us
lie_read section [] i e = units-cases section i ∙ rw e refl
lie_read section (u ∷ us) i l = units-cases section i
    ∙ rw (some_byte section i (u, l.0) l.1, l.1, lie_read section us l.0 l.2) refl

pub read_lie : (section : UnitSection) (us : List Unit) (i : Input) → units section i ≡ map Ok us
    → UnitsLie section i us
read_lie section [] i e = no_byte section i e
read_lie section (u ∷ us) i e =
    let x = listed_ok (unit_at section i) (units section) u (map Ok us)
    (some_listed section i (Ok u) (map Ok us) e) in
    (x.0, x.1, read_lie section us x.0 x.2)
