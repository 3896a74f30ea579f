-- The first unit of a section, and the header of a split compilation unit of DWARF 5, in the 32-bit
-- format. What a reading gave of a section it gives again elsewhere, of the bytes alone that it
-- took; so a unit is read again from its own bytes.
use Rattle.dwp_base.specs.declared.endian.Endianness.{Endianness, TheVariants.Little}
use Rattle.dwp_base.{proofs.Steps.bind-was, specs.Numbers.number, specs.Reading.◌>>=◌}
use Rattle.dwp_bytes.specs.Input.{after, byte_at, Input, number_at, relocated_at, section, split_at}
use Rattle.dwp_bytes.specs.declared.encoding.{Encoding.Encoding, Format.TheVariants.Dwarf32}
use Rattle.dwp_bytes.specs.declared.error.ReadError.{ReadError, TheVariants.UnexpectedEof}
use Rattle.dwp_bytes.specs.{declared.encoding.Format.Format, Encoding.offset_size, Input.offset_at}
use Rattle.dwp_units.proofs.Readings.{bind-cond, by-result, test_gives, then_gives, then_split, was}
use Rattle.dwp_units.proofs.Readings.{error_gives, Gives, value_gives}
use Rattle.dwp_units.proofs.Units.{unit_taken, units-cases}
use Rattle.dwp_units.specs.Units.{address_size_at, initial_length_at, type_at, Unit, unit_at, units}
use Rattle.dwp_units.specs.Units.{header_at, listed, older_at}
use Rattle.dwp_units.specs.Units.{newer_at, older_type_at, unit_code_at, unit_type_at, units_within}
use Rattle.std.proofs.Common.{add_assoc, drop-drop, length-take-le, ltb-false, slice_get, take-take}
use Rattle.std.proofs.Common.{ap, is_ok, Ok, zero, [], ℕ, ◌≤◌, ◌⊎◌}
use Rattle.std.proofs.Common.{arith, Bool, cond, drop, false, length-take, List, lt-ltb, refl, Some}
use Rattle.std.proofs.Common.{eqb, Err, inl, inr, ltb, suc, sym, take, ◌+◌, ◌-◌, ◌<◌, ◌∙◌, ◌∷◌, ◌≡◌}
use Rattle.std.proofs.Common.{get_or, get_or-drop, get_or-take, le-ltb, length, length-drop, Result}
use Rattle.{dwp_index.specs.Package.encoding_in, std.proofs.lemmas.Bool.Decides.nat_tests}
use Rattle.{dwp_units.specs.declared.unit.UnitSection.UnitSection, std.proofs.lemmas.List.drop-take}

-- the encoding of the first of these units
abbrev first_encoding : List (Result Unit ReadError) → Result Encoding ReadError
first_encoding [] = Err UnexpectedEof
first_encoding (unit ∷ units) = unit >>= λ u. Ok u.encoding

no_unit : (place : UnitSection) (i : Input) → length i.bytes ≡ 0
    → unit_at place i ≡ Err UnexpectedEof
unfolding unit_at initial_length_at number_at
no_unit place i e = rw e refl

-- it is what is read of the bytes
pub encoding_first : (order : Endianness) (place : UnitSection) (bytes : List ℕ)
    → encoding_in order place bytes ≡ first_encoding (units place (section order bytes))
unfolding encoding_in
encoding_first order place bytes =
    let i = section order bytes in grind (arith, nat_tests, units-cases place i, no_unit place i)

-- the encoding of such a unit, wherever it stands
pub split_encoding : (order : Endianness) (place : UnitSection) (bytes body : List ℕ) (n : ℕ)
    → number order 4 bytes ≡ n → n < 0xfffffff0 → 16 ≤ n → n + 4 ≤ length bytes
    → body ≡ take n (drop 4 bytes) → number order 2 body ≡ 5 → get_or body 2 0 ≡ 5
    → get_or body 3 0 ≡ 8 → encoding_in order place bytes
    ≡ Ok (record { version = 5; format = Dwarf32; address_size = 8 })
unfolding encoding_in unit_at initial_length_at split_at number_at header_at newer_at unit_code_at
    address_size_at unit_type_at offset_at relocated_at byte_at
split_encoding order place bytes body n length_is narrow enough fits same version five eight =
    let left = length-drop 4 bytes in
    let long = ap length same ∙ length-take-le n (drop 4 bytes) (omega arith) in
    let all : (k : ℕ) → k ≤ 8 → ltb (length (drop k body)) 1 ≡ false =
    λ k h. le-ltb (length (drop k body)) 1 (omega (arith, length-drop k body)) in rw (
      le-ltb (length bytes) 4 (omega arith),
      length_is,
      lt-ltb n 0xfffffff0 narrow,
      le-ltb (length (drop 4 bytes)) n (omega arith),
      le-ltb (length bytes) (0 + 4 + n - 0) (omega arith),
      ← same,
      le-ltb (length body) 2 (omega arith),
      version,
      drop-drop 1 2 body,
      all 2 (omega arith),
      get_or-drop 2 body 0 0 ∙ five,
      all 3 (omega arith),
      get_or-drop 3 body 0 0 ∙ eight,
      drop-drop 1 3 body,
      le-ltb (length (drop 4 body)) 4 (omega (arith, length-drop 4 body)),
      drop-drop 4 4 body,
      le-ltb (length (drop 8 body)) 8 (omega (arith, length-drop 8 body)),
    ) refl

-- bytes that nothing relocates, from a place on
abbrev pub plain : Endianness → ℕ → List ℕ → Input
plain order place bytes =
    record { order = order; relocated = λ at stored. stored; place = place; bytes = bytes }

-- ---- a unit of these bytes, and of its own bytes alone

-- the number in front of bytes is that of the first of them alone
four : (order : Endianness) (k : ℕ) (bytes : List ℕ) → 4 ≤ k
    → number order 4 (take k bytes) ≡ number order 4 bytes
four order k bytes h = grind (arith, get_or-take)

eight : (order : Endianness) (k : ℕ) (bytes : List ℕ) → 8 ≤ k
    → number order 8 (take k bytes) ≡ number order 8 bytes
eight order k bytes h = grind (arith, get_or-take)

-- a length took so many bytes, and is read of these alone
record IsLength (order : Endianness) (p : ℕ) (bytes : List ℕ)
    (x : (Format × ℕ) × Input) : Type 0 where
  taken : ℕ
  fits : taken ≤ length bytes
  left : x.1 ≡ plain order (p + taken) (drop taken bytes)
  again : (k : ℕ) → taken ≤ k → initial_length_at (plain order 0 (take k bytes))
      ≡ Ok (x.0, plain order taken (drop taken (take k bytes)))

length_alone : (order : Endianness) (p : ℕ) (bytes : List ℕ)
    → Gives ((Format × ℕ) × Input) (initial_length_at (plain order p bytes))
    (IsLength order p bytes)
unfolding initial_length_at number_at
length_alone order p bytes =
    let n = number order 4 bytes in
    simp bind-cond (test_gives (ltb (length bytes) 4) (λ _. error_gives) (λ some. test_gives
    (ltb n 0xfffffff0) (λ narrow. value_gives (record {
      taken = 4;
      fits = ltb-false _ _ some;
      left = refl;
      again = λ k h.
          let enough = ltb-false _ _ some in
          let long = le-ltb (length (take k bytes)) 4
          (omega (arith, enough, length-take k bytes)) in
          rw (long, four order k bytes h, narrow) refl;
    })) (λ wide. test_gives (eqb n 0xffffffff) (λ all. test_gives (ltb (length (drop 4 bytes)) 8)
    (λ _. error_gives) (λ more. value_gives (record {
      taken = 12;
      fits = omega (arith, ltb-false _ _ more, length-drop 4 bytes);
      left = rw (drop-drop, add_assoc) refl;
      again = λ k h.
          let rest : drop 4 (take (4 + (k - 4)) bytes) ≡ take (k - 4) (drop 4 bytes) =
          drop-take 4 (k - 4) bytes in
          let whole : 4 + (k - 4) ≡ k = omega arith in
          let behind = rw whole at rest in
          let front = eight order (k - 4) (drop 4 bytes) (omega arith) in
          let enough = ltb-false _ _ more in
          let many = length-drop 4 bytes in
          rw (
            le-ltb (length (take k bytes)) 4 (omega (arith, enough, many, length-take k bytes)),
            four order k bytes (omega arith),
            wide,
            all,
            le-ltb (length (drop 4 (take k bytes))) 8
                (omega (arith, enough, many, length-drop 4 (take k bytes), length-take k bytes)),
            behind,
            front,
            ← behind,
            drop-drop,
          ) refl;
    }))) (λ _. error_gives))))

-- a part of a header goes by the bytes alone
code_alone : (i : Input)
    → unit_code_at i ≡ (unit_code_at (section Little i.bytes) >>= λ n. Ok (n.0, after 1 i))
unfolding unit_code_at byte_at
code_alone i = grind arith

size_alone : (i : Input)
    → address_size_at i ≡ (address_size_at (section Little i.bytes) >>= λ n. Ok (n.0, after 1 i))
unfolding address_size_at byte_at
size_alone i = grind arith

type_alone : (code : ℕ) (format : Format) (i : Input) → is_ok (unit_type_at code format i)
    ≡ is_ok (unit_type_at code format (section Little i.bytes))
unfolding unit_type_at type_at offset_at relocated_at number_at
type_alone code format i = grind arith

-- so the encoding is the same wherever they stand, whatever all bytes of the unit are
abbrev shown : Result Unit ReadError → Input → Result Encoding ReadError
shown r rest = (r >>= λ (u : Unit). Ok (u, rest)) >>= λ (x : Unit × Input). Ok x.0.encoding

newer_alone : (format : Format) (whole other rest i : Input) (q : ℕ) (u : Unit)
    → newer_at format whole i ≡ Ok u
    → shown (newer_at format other (record i { place = q })) rest ≡ Ok u.encoding
unfolding newer_at offset_at relocated_at
newer_alone format whole other rest i q u h = by-result _ (unit_code_at (section Little i.bytes))
    (λ x code. by-result _ (address_size_at (section Little (drop 1 i.bytes)))
    (λ y size.
    let j : Input = record i { place = q } in
    let type = λ (k : Input). type_alone x.0 format
    (after (offset_size format) (after 1 (after 1 k))) in
    rw (code_alone j, code, size_alone (after 1 j), size) (grind (
      arith,
      rw (code_alone i, code, size_alone (after 1 i), size) at h,
      type i ∙ sym (type j),
    )))
    (λ e size. let never = rw (code_alone i, code, size_alone (after 1 i), size) at h in absurd cc))
    (λ e code. let never = rw (code_alone i, code) at h in absurd cc)

older_alone : (place : UnitSection) (format : Format) (version : ℕ) (whole other rest i : Input)
    (q : ℕ) (u : Unit) → older_at place format version whole i ≡ Ok u
    → shown (older_at place format version other (record i { place = q })) rest ≡ Ok u.encoding
unfolding older_at older_type_at type_at address_size_at offset_at relocated_at number_at byte_at
older_alone place format version whole other rest i q u h = grind arith

header_alone : (place : UnitSection) (format : Format) (whole other rest i : Input) (q : ℕ)
    (u : Unit) → header_at place format whole i ≡ Ok u
    → shown (header_at place format other (record i { place = q })) rest ≡ Ok u.encoding
unfolding header_at number_at
header_alone place format whole other rest i q u h =
    let j = after 2 i in grind (
      arith,
      newer_alone format whole other rest j (q + 2) u,
      older_alone place format (number i.order 2 i.bytes) whole other rest j (q + 2) u,
    )

unit_alone : (order : Endianness) (place : UnitSection) (p : ℕ) (bytes : List ℕ)
    → Gives (Unit × Input) (unit_at place (plain order p bytes)) (λ x. (k : ℕ)
    → x.1.place ≡ p + k → encoding_in order place (take k bytes) ≡ Ok x.0.encoding)
unfolding unit_at encoding_in split_at
unit_alone order place p bytes = then_gives (length_alone order p bytes) (λ len first.
    let n = len.0.1 in
    let m = first.taken in
    let own = take (m + n) bytes in
    rw first.left (then_split _ n (plain order (p + m) (drop m bytes)) (λ few. then_split _ _
    (plain order p bytes) (λ _. then_gives
    (was (header_at place len.0.0 _ (plain order (p + m) (take n (drop m bytes)))))
    (λ u head. value_gives (λ k end.
    let long : n ≤ length (drop m bytes) = few in
    let body : length (take n (drop m bytes)) ≡ n = length-take-le n (drop m bytes) long in
    let all : length own ≡ m + n =
    length-take-le (m + n) bytes (omega (arith, first.fits, length-drop m bytes)) in
    let size : k ≡ m + n = omega arith in
    let place' : m + n - 0 ≡ m + n = omega arith in rw (
      size,
      first.again (m + n) (omega arith),
      drop-take m n bytes,
      le-ltb (length (take n (drop m bytes))) n (omega arith),
      place',
      le-ltb (length own) (m + n) (omega arith),
      take-take n n (drop m bytes) (omega arith),
    ) (header_alone place len.0.0 _ _ _ _ m u head)))))))

-- ---- the units of a section
abbrev Listed : Type 0
Listed = List (Result Unit ReadError)

-- a unit among those that were read is the first, or among those behind it
pub listed_at : (r : Result (Unit × Input) ReadError) (others : Input → Listed) (none : Bool)
    (k : ℕ) (unit : Unit) → slice_get (cond none [] (listed r others)) k ≡ Some (Ok unit)
    → (x : Unit × Input) × (r ≡ Ok x)
    × ((x.0 ≡ unit) ⊎ (slice_get (others x.1) (k - 1) ≡ Some (Ok unit)))
listed_at r others none k unit h = grind arith

module _ (order : Endianness) (place : UnitSection) (u : Unit) where
  -- where a unit was read
  pub within_at : (n p : ℕ) (bytes : List ℕ) (k : ℕ)
      → slice_get (units_within n place (plain order p bytes)) k ≡ Some (Ok u) → (q : ℕ)
      × (own : List ℕ) × (rest : Input) × (unit_at place (plain order q own) ≡ Ok (u, rest))
  unfolding units_within
  within_at zero p bytes k given = absurd cc
  within_at (suc n) p bytes k given =
      let i = plain order p bytes in
      let l = listed_at (unit_at place i) (units_within n place) (eqb (length bytes) 0) k u given in
      let t = unit_taken place i l.0.1 l.0.0 l.1 in elim l.2 [
        | inl same ↦ (p, bytes, l.0.1, l.1 ∙ ap (λ (v : Unit). Ok (v, l.0.1)) same)
        | inr later ↦ within_at n (p + t.0.taken) (drop t.0.taken bytes) (k - 1)
            (rw t.0.is at later)
      ]

  pub units_alone : (bytes : List ℕ) (k : ℕ) → slice_get (units place (section order bytes)) k ≡
      Some (Ok u) → encoding_in order place u.whole.bytes ≡ Ok u.encoding
  unfolding units
  units_alone bytes k given =
      let at = within_at (length bytes) 0 bytes k given in
      let t = unit_taken place (plain order at.0 at.1) at.2 u at.3 in
      rw t.1 ((unit_alone order place at.0 at.1).gives (u, at.2) at.3 t.0.taken
      (ap (λ (i : Input). i.place) t.0.is))

-- ---- a unit of version 5 is read the same in either section
pub unit_anywhere : (place other : UnitSection) (i : Input) (u : Unit) (rest : Input)
    → u.encoding.version ≡ 5 → unit_at place i ≡ Ok (u, rest) → unit_at other i ≡ Ok (u, rest)
unfolding unit_at header_at older_at
unit_anywhere place other i u rest five h = grind arith

pub encoding_anywhere : (order : Endianness) (place other : UnitSection) (bytes : List ℕ)
    (encoding : Encoding) → encoding.version ≡ 5 → encoding_in order place bytes ≡ Ok encoding
    → encoding_in order other bytes ≡ Ok encoding
unfolding encoding_in
encoding_anywhere order place other bytes encoding five e =
    let a = bind-was (unit_at place (section order bytes)) (λ unit.
    Ok unit.0.encoding) encoding e in
    let same : a.0.0.encoding ≡ encoding = cc in
    let version = ap (λ (x : Encoding). x.version) same ∙ five in
    rw (unit_anywhere place other (section order bytes) a.0.0 a.0.1 version a.1) a.2
