-- What is read of bytes is read alike wherever they stand, and a unit whatever follows it.
use Rattle.thorin_join.proofs.Terms
use Terms.{Err, first_identifier, Format, Header, identity, Input, is_some, length, length-append}
use Terms.{List, nat_tests, number_front, Ok, ReadError, refl, Result, root_identity, suc, sym}
use Terms.{after, ap, arith, Bool, cond, drop, drop-append-le, Encoding, Endianness, entry_identity}
use Terms.{take-append-drop, take-append-le, true, type_signature, UnitSection, zero, [], ℕ, ◌++◌}
use Terms.{◌+◌, ◌-◌, ◌>>=◌, ◌∙◌, ◌∷◌, ◌≡◌, ◌⊎◌}
use Rattle.dwp_bytes.specs.declared.error.ReadError.TheVariants.{AddressSize, UnknownForm}
use Rattle.dwp_bytes.specs.declared.encoding.Format.TheVariants.{Dwarf32, Dwarf64}
use Rattle.dwp_units.{proofs.Units.unit_takes, specs.declared.unit.UnitSection.TheVariants.Types}
use Rattle.dwp_units.specs.AbbreviationCodes.{code_at, root_code_at}
use Rattle.{dwp_dwarf.specs.Abbreviations.Specification, std.specs.Prelude.is_ok}
use Rattle.{dwp_dwarf.specs.Forms.past_value, dwp_dwarf.specs.Forms.text_at, std.specs.Option.ok_or}
use Rattle.dwp_units.proofs.Readings.{reads_byte, reads_sleb, reads_uleb}
use Rattle.std.proofs.Common.{add_assoc, length-take-le, ℤ}
use Rattle.dwp_dwarf.specs.Entries.{attribute_at, attributes, DebugAttribute, number_of}
use Rattle.dwp_bytes.specs.{Input.skip_at, Input.split_at, Leb.sleb_at, Leb.uleb_at}
use Rattle.dwp_dwarf.specs.Forms.{block_length_at, layout_of, named_form_at, named_within, value_at}
use Rattle.dwp_units.specs.Units.{address_size_at, header_at, initial_length_at, newer_at, older_at}
use Rattle.dwp_bytes.specs.Input.{byte_at, is_address_size, number_at, offset_at, relocated_at}
use Rattle.dwp_units.specs.Units.{older_type_at, type_at, unit_at, unit_code_at, unit_type_at}
use Rattle.dwp_units.proofs.Readings.{Answer, bind-bind, bind_alike, by-result, more, Reads}
pub use Rattle.dwp_index.proofs.UnitBytes.{plain}

-- what was read, moved
abbrev pub moved : {A : Type 0} → (A → A) → Result A ReadError → Result A ReadError
moved go r = r >>= λ x. Ok (go x)

-- bytes so far behind others, whose numbers are relocated in this way
module _ (d : ℕ) (by : (ℕ → ℕ → ℕ) → ℕ → ℕ → ℕ) where
  unfoldable pub there : Input → Input
  there i = record i { relocated = by i.relocated; place = d + i.place }

  -- the rest, and both of two inputs
  abbrev pub behind : {A : Type 0} → A × Input → A × Input
  behind x = (x.0, there x.1)

  abbrev pub both : Input × Input → Input × Input
  both x = (there x.0, there x.1)

  -- a reading gives the same there
  abbrev pub Shifts : (A : Type 0) → (Input → Answer A) → Type 0
  Shifts A read = (i : Input) → read (there i) ≡ moved behind (read i)

  pub there-is : (i : Input)
      → there i ≡ record i { relocated = by i.relocated; place = d + i.place }
  unfolding there
  there-is i = refl

  pub number-there : (n : ℕ) → Shifts ℕ (number_at n)
  unfolding number_at there
  number-there n i = grind (arith, add_assoc)

  pub skip-there : (n : ℕ) → Shifts (Unit {0}) (skip_at n)
  unfolding skip_at there
  skip-there n i = grind (arith, add_assoc)

  pub split-there : (n : ℕ) (i : Input) → split_at n (there i) ≡ moved both (split_at n i)
  unfolding split_at there
  split-there n i = grind (arith, add_assoc)

  -- what is read alike anywhere
  reads-there : {n : ℕ} {A : Type 0} {read : Input → Answer A} → Reads n A read → Shifts A read
  unfolding there
  reads-there {read = read} r i = by-result _ (read i) (λ x is. let t = (r.reads i).gives x is in
      rw (is, t.goes.is, ← add_assoc) (rw take-append-drop at
      (t.anyway (there i) (drop t.goes.taken i.bytes))))
      (λ e is. rw is (r.fails i (there i) refl e is))

  pub byte-there : Shifts ℕ byte_at
  byte-there = reads-there reads_byte

  pub uleb-there : Shifts ℕ uleb_at
  uleb-there = reads-there reads_uleb

  pub sleb-there : Shifts ℤ sleb_at
  sleb-there = reads-there reads_sleb

-- the readings that others are made of
pub ruleset readings = (byte-there, number-there, skip-there, split-there, uleb-there, sleb-there)

-- the same bytes at a place behind others
abbrev pub shifted : ℕ → Input → Input
shifted d i = record i { place = d + i.place }

-- a unit that says the same, with its entries at another place
pub record IsShifted (d : ℕ) (unit other : Header) : Type 0 where
  pub type : other.unit_type ≡ unit.unit_type
  pub encoding : other.encoding ≡ unit.encoding
  pub offset : other.abbrev_offset ≡ unit.abbrev_offset
  pub entries : other.entries ≡ shifted d unit.entries

-- read of a place that lies so far behind the other
module _ (d : ℕ) where
  abbrev same : (ℕ → ℕ → ℕ) → ℕ → ℕ → ℕ
  same relocated = relocated

  abbrev away : Input → Input
  away = there d same

  -- the bytes up to where a reading ends
  up-to : (i : Input) (here away' : Result Input ReadError) → away' ≡ moved away here
      → (away' >>= λ rest. split_at (rest.place - (away i).place) (away i) >>= λ value.
      Ok (value.0, rest)) ≡ moved (both d same) (here >>= λ rest.
      split_at (rest.place - i.place) i >>= λ value. Ok (value.0, rest))
  up-to i here away' h = grind (arith, there-is, readings)

  value-shifts : (encoding : Encoding) (form : ℕ) (i : Input)
      → value_at encoding form (away i) ≡ moved (both d same) (value_at encoding form i)
  unfolding value_at past_value block_length_at text_at
  value-shifts encoding form i =
      let layout = ok_or (layout_of encoding form) UnknownForm in
      bind_alike layout _ _ (λ l _. up-to i (past_value l i) (past_value l (away i))
      (grind (arith, there-is, readings))) ∙ sym (bind-bind layout _ _)

  named-shifts : (n form : ℕ) → Shifts d same ℕ (named_within n form)
  unfolding named_within
  named-shifts zero form i = grind arith
  named-shifts (suc n) form i = grind (arith, readings, named-shifts n)

  -- attributes
  abbrev attribute_away : DebugAttribute → DebugAttribute
  attribute_away a = record a { value = away a.value }

  attribute-shifts : (encoding : Encoding) (s : Specification) (i : Input) → attribute_at encoding s
      (away i) ≡ moved (λ x. (attribute_away x.0, away x.1)) (attribute_at encoding s i)
  unfolding attribute_at named_form_at
  attribute-shifts encoding s i = grind (arith, there-is, named-shifts, value-shifts)

  first-same : (encoding : Encoding) (specs : List Specification) (i : Input) → first_identifier
      (attributes encoding specs (away i)) ≡ first_identifier (attributes encoding specs i)
  unfolding number_of
  first-same encoding [] i = refl
  first-same encoding (s ∷ ss) i = grind (arith, readings, attribute-shifts, first-same encoding ss)

-- both have one identity
pub identity-shifted : (section : Input) (d : ℕ) (unit other : Header) → IsShifted d unit other
    → identity section other ≡ identity section unit
unfolding identity root_identity root_code_at code_at entry_identity
identity-shifted section d unit other h =
    rw (h.offset, h.encoding, h.entries, h.type, ← there-is d (same d) unit.entries)
    (grind (arith, there-is, readings, first-same))

-- behind others
module _ (d : ℕ) where
  -- the relocations are moved too
  abbrev by : (ℕ → ℕ → ℕ) → ℕ → ℕ → ℕ
  by relocated at = relocated (at - d)

  abbrev unit_there : Header → Header
  unit_there u = record u { whole = there d by u.whole; entries = there d by u.entries }

  abbrev ShiftsHeader : (Input → Input → Result Header ReadError) → Type 0
  ShiftsHeader read = (whole i : Input)
      → read (there d by whole) (there d by i) ≡ moved unit_there (read whole i)

  length-shifts : Shifts d by (Format × ℕ) initial_length_at
  unfolding initial_length_at
  length-shifts i = grind (arith, readings)

  offset-shifts : (format : Format) → Shifts d by ℕ (offset_at format)
  unfolding offset_at relocated_at there
  offset-shifts format i = grind (arith, add_assoc)

  -- a byte that passes a test
  tested-shifts : (test : ℕ → Bool) (e : ReadError)
      → Shifts d by ℕ (λ i. byte_at i >>= λ n. cond (test n.0) (Ok n) (Err e))
  tested-shifts test e i = grind (arith, readings)

  address_size-shifts : Shifts d by ℕ address_size_at
  unfolding address_size_at
  address_size-shifts = tested-shifts is_address_size AddressSize

  older-shifts : (place : UnitSection) (format : Format) (version : ℕ)
      → ShiftsHeader (older_at place format version)
  unfolding older_at older_type_at type_at
  older-shifts place format version whole i =
      grind (arith, readings, address_size-shifts, offset-shifts)

  newer-shifts : (format : Format) → ShiftsHeader (newer_at format)
  unfolding newer_at unit_code_at unit_type_at type_at
  newer-shifts format whole i = grind (arith, readings, address_size-shifts, offset-shifts)

  unit-shifts : (place : UnitSection) (i : Input) → unit_at place (there d by i)
      ≡ moved (λ x. (unit_there x.0, there d by x.1)) (unit_at place i)
  unfolding unit_at header_at
  unit-shifts place i = grind (arith, length-shifts, readings, there-is, newer-shifts, older-shifts)

-- with more behind them
module _ (rest : List ℕ) where
  unfoldable longer : Input → Input
  longer i = more i rest

  -- what is read is read where more follows
  abbrev Onward : {A : Type 0} → (Input → Answer A) → Type 0
  Onward {A} read = (i : Input) → is_ok (read i) ≡ true
      → read (longer i) ≡ moved {A = A × Input} (λ x. (x.0, longer x.1)) (read i)

  place-longer : (i : Input) → (longer i).place ≡ i.place
  unfolding longer
  place-longer i = refl

  split-more : (n : ℕ) → Onward (split_at n)
  unfolding split_at longer
  split-more n i h = grind (arith, nat_tests, length-append, drop-append-le, take-append-le)

  length-more : Onward initial_length_at
  unfolding initial_length_at number_at longer
  length-more i h =
      let front = number_front i.order in
      grind (arith, nat_tests, length-append, drop-append-le, front Dwarf32, front Dwarf64)

  unit-more : (place : UnitSection) → Onward (unit_at place)
  unfolding unit_at
  unit-more place i h = grind (arith, length-more, split-more, place-longer)

-- the same unit, read where its bytes stand behind others and before more
pub record Moved (order : Endianness) (place : UnitSection) (own more : List ℕ) (d : ℕ)
    (u : Header) : Type 0 where
  pub unit : Header
  pub read : unit_at place (plain order d (own ++ more))
      ≡ Ok (unit, after (length u.whole.bytes) (plain order d (own ++ more)))
  pub whole : unit.whole ≡ plain order d u.whole.bytes
  pub shifted : IsShifted d u unit

-- a unit of some bytes alone is read alike at another place, with more behind them
pub unit-moves : (order : Endianness) (place : UnitSection) (own more : List ℕ) (d : ℕ) (u : Header)
    (r : Input) → unit_at place (plain order 0 own) ≡ Ok (u, r) → Moved order place own more d u
unfolding there longer
unit-moves order place own rest d u r h =
    let i = plain order 0 own in
    let t = (unit_takes place i).gives (u, r) h in
    let k = t.goes.taken in
    let size : length u.whole.bytes ≡ k =
    grind (arith, t.whole, length-take-le k own t.goes.enough) in
    let shifts = unit-shifts d place i ∙ ap (moved _) h in
    let read = unit-more rest place (there d (by d) i) (ap is_ok shifts) ∙ ap (moved _) shifts in
    record {
      unit = unit_there d u;
      read = grind (arith, read, t.goes.is, size, drop-append-le k own rest t.goes.enough);
      whole = grind (arith, t.whole);
      shifted = grind (arith, t.inside.is, t.whole);
    }

-- the same of both sections: units of version 5
pub newer-five : (format : Format) (whole i : Input) (u : Header) → newer_at format whole i ≡ Ok u
    → u.encoding.version ≡ 5
unfolding newer_at
newer-five format whole i u h = grind arith

-- a unit in types is of version 5 or a type unit
abbrev pub FiveOrType : Header → Type 0
FiveOrType unit = (unit.encoding.version ≡ 5) ⊎ (is_some (type_signature unit.unit_type) ≡ true)

pub unit-five : (i rest : Input) (u : Header) → unit_at Types i ≡ Ok (u, rest) → FiveOrType u
unfolding unit_at header_at older_at older_type_at
unit-five i rest u h = grind (arith, newer-five)
