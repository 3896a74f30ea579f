-- The values of a root entry lie in its unit: each part that is read stands right behind the one
-- before it. Attributes whose values have no bytes have no number and name no place, so the
-- attributes that are needed tell what all tell.
use Rattle.dwp_dwarf.proofs.Terms
use Rattle.dwp_units.proofs.Readings.{Answer, bind-bind, bind-cond, by-result, goes_none, goes_some}
use Rattle.dwp_units.proofs.Readings.{after-zero, bind_alike, goes_after, goes_then, skip_goes, was}
use Rattle.dwp_units.proofs.Readings.{error_gives, number_goes, then_gives, then_split, value_gives}
use Rattle.{dwp_bytes.specs.Input.after, dwp_bytes.specs.Input.found_at, std.specs.Option.option_or}
use Terms.{Encoding, Goes, has_bytes, is_needed, layout_of, ReadError, split_at, split_in, value_at}
use Terms.{add-zero, by-bool, eqb-true, Err, is_none, is_unmet, neither, none_met, skip_at, uleb_at}
use Terms.{attribute_at, DebugAttribute, Declaration, named_form_at, Specification, SplitAttributes}
use Terms.{byte_at, Fixed, Format, IfSome, Input, le-ltb, leb_at, length, needed, Option, Result, ℕ}
use Terms.{attributes, DebugEntry, declaration, first_number, past_value, UnknownCode, UnknownForm}
use Terms.{arith, cond, eqb, false, front, List, None, ok_or, refl, Some, Unit, zero, ◌++◌, ◌>>=◌}
use Rattle.dwp_units.proofs.Readings.{more_gives, reads_byte, reads_sleb, reads_uleb, test_gives}
use Rattle.{dwp_dwarf.specs.declared.value.BlockLength.BlockLength, std.proofs.Math.Nat.sub_self}
use Rattle.dwp_dwarf.specs.declared.value.FormLayout.TheVariants.{Block, Signed, Text, Unsigned}
use Rattle.dwp_dwarf.specs.declared.{needed.UnmetNames.UnmetNames, value.FormLayout.FormLayout}
use Rattle.{dwp_dwarf.proofs.Tables.code_goes, dwp_units.specs.AbbreviationCodes.root_code_at}
use Rattle.dwp_dwarf.specs.Split.{all_read, none_found, split_attributes, with_attribute}
use Rattle.dwp_dwarf.specs.declared.value.BlockLength.TheVariants.{Four, Leb, One, Two}
use Rattle.dwp_dwarf.specs.Values.{LiesFirst, LiesInUnit, RootValuesLie, ValuesLie}
use Rattle.dwp_units.proofs.Readings.{by_step, Gives, goes, shorter, size, Steps}
use Rattle.dwp_dwarf.specs.Entries.{entry_at, number_of, place_of, root_at}
use Rattle.dwp_dwarf.specs.Forms.{block_length_at, named_within, text_at}
use Terms.{[], ap, map, met, Ok, suc, sym, ◌-◌, ◌∙◌, ◌∷◌, ◌≡◌, ◌≢◌}
use Rattle.dwp_units.proofs.Units.{listed_ok, Onward, unit_takes}

-- ---- the names of forms

-- what follows a name
abbrev after_name : (ℕ × Input → Answer ℕ) → ℕ × Input → Answer ℕ
after_name others named = cond (eqb named.0 0x21) (Err UnknownForm) (others named)

pub named_form_cases : (form : ℕ) (i : Input) → named_form_at form i ≡
    (cond (eqb form 0x16) (uleb_at i >>= λ x. cond (eqb x.0 0x21) (Err UnknownForm)
    (named_form_at x.0 x.1)) (Ok (form, i)))
unfolding named_form_at named_within uleb_at leb_at byte_at
named_form_cases form i =
    let steps : Steps (λ (s : ℕ × Input). size s.1) (λ n s. named_within n s.0 s.1) (λ others s.
    cond (eqb s.0 0x16) (uleb_at s.1 >>= after_name others) (Ok s)) = record {
      none = λ others s e. rw e refl;
      next = λ n s. refl;
      alike = λ f g s same. ap (λ r. cond (eqb s.0 0x16) r (Ok s))
          (bind_alike (uleb_at s.1) (after_name f) (after_name g) (λ x e. ap
          (cond (eqb x.0 0x21) (Err UnknownForm)) (same x (shorter reads_uleb s.1 x e))));
    } in
    by_step steps (form, i)

-- a form that isn't the form indirect has no name before it
abbrev NamesForm : ℕ → Input → ℕ × Input → Type 0
NamesForm form i x = (goes : Goes 0 i x.1) × (form ≢ 0x16 → (goes.taken ≡ 0) × (x.0 ≡ form))

own_form : (form : ℕ) (i : Input) → NamesForm form i (form, i)
own_form form i = (goes_none, λ _. (refl, refl))

named_gives : (n form : ℕ) (i : Input)
    → Gives (ℕ × Input) (named_within n form i) (NamesForm form i)
unfolding named_within
named_gives zero form i = test_gives (eqb form 0x16) (λ _. error_gives)
    (λ _. value_gives (own_form form i))
named_gives (suc n) form i = test_gives (eqb form 0x16) (λ indirect. then_gives (goes reads_uleb i)
    (λ x p. test_gives (eqb x.0 0x21) (λ _. error_gives) (λ _. more_gives (named_gives n x.0 x.1)
    (λ y q. (goes_some (goes_then p q.0), λ own. absurd (own (eqb-true _ _ indirect)))))))
    (λ _. value_gives (own_form form i))

-- ---- a value

text_goes : (i : Input) → Onward Input i (text_at i)
unfolding text_at
text_goes i = then_gives (was (found_at 0 i.bytes)) (λ n _. then_split _ n i (λ fits. then_gives
    (skip_goes 1 (after n i)) (λ rest q.
    value_gives (goes_some (goes_then (goes_after n fits) q)))))

block_length_goes : (wide : BlockLength) (i : Input) → Onward ℕ i (block_length_at wide i)
unfolding block_length_at
block_length_goes One i = more_gives (goes reads_byte i) (λ x p. goes_some p)
block_length_goes Two i = more_gives (number_goes 2 i) (λ x p. goes_some p)
block_length_goes Four i = more_gives (number_goes 4 i) (λ x p. goes_some p)
block_length_goes Leb i = more_gives (goes reads_uleb i) (λ x p. goes_some p)

past_goes : (layout : FormLayout) (i : Input) → Gives Input (past_value layout i) (Goes 0 i)
unfolding past_value
past_goes (Fixed size) i = then_gives (skip_goes size i) (λ x p. value_gives (goes_some p))
past_goes (Block wide) i = then_gives (block_length_goes wide i) (λ n p. then_gives
    (skip_goes n.0 n.1) (λ x q. value_gives (goes_then p q)))
past_goes Text i = then_gives (text_goes i) (λ x p. value_gives p)
past_goes Unsigned i = then_gives (goes reads_uleb i) (λ x p. value_gives (goes_some p))
past_goes Signed i = then_gives (goes reads_sleb i) (λ x p. value_gives (goes_some p))

pub value_is : (encoding : Encoding) (form : ℕ) (i : Input) → Gives (Input × Input)
    (value_at encoding form i) (λ x. (goes : Goes 0 i x.1) × (x.0 ≡ front goes.taken i))
unfolding value_at
value_is encoding form i = then_gives (was (ok_or (layout_of encoding form) UnknownForm))
    (λ layout _. then_gives (past_goes layout i) (λ rest goes. then_split _ (rest.place - i.place) i
    (λ _. let place : rest.place - i.place ≡ goes.taken =
    omega (arith, ap (λ (x : Input). x.place) goes.is) in
    value_gives (goes, ap (λ (n : ℕ). front n i) place))))

-- ---- an attribute

-- an attribute that was read lies first
pub attribute_lies : (encoding : Encoding) (s : Specification) (i : Input) → Gives
    (DebugAttribute × Input) (attribute_at encoding s i) (λ p. LiesFirst s i p.0 p.1)
unfolding attribute_at named_form_at
attribute_lies encoding s i = then_gives (named_gives (size i) s.form i) (λ form names. then_gives
    (value_is encoding form.0 form.1) (λ value is.
    let both = goes_then names.0 is.0 in
    value_gives (record {
      names = names.0.taken;
      size = is.0.taken;
      fits = both.enough;
      name = refl;
      direct = names.1;
      value = rw names.0.is at is.1;
      left = both.is;
    })))

values_lie : (encoding : Encoding) (read : List DebugAttribute) (ss : List Specification)
    (i : Input) (others : List (Result DebugAttribute ReadError))
    → attributes encoding ss i ≡ map Ok read ++ others → ValuesLie read ss i
values_lie encoding [] ss i others e = tt
values_lie encoding (a ∷ more) [] i others e = absurd cc
values_lie encoding (a ∷ more) (s ∷ ss) i others e =
    let x = listed_ok (attribute_at encoding s i) (attributes encoding ss) a (map Ok more ++ others)
    e in (
      x.0,
      (attribute_lies encoding s i).gives (a, x.0) x.1,
      values_lie encoding more ss x.0 others x.2,
    )

-- ---- the root entry

found_some : (o : Option Declaration) → Gives Declaration (ok_or o UnknownCode) (λ d. o ≡ Some d)
found_some None = error_gives
found_some (Some d) = value_gives refl

-- one that was read has its first attributes in its unit
root_lies : (u : Unit) (table : Input) → Goes 0 u.whole u.entries → Gives (Option DebugEntry)
    (root_at u table) (λ o. IfSome o (λ e. (read : List DebugAttribute)
    (others : List (Result DebugAttribute ReadError)) → e.attributes ≡ map Ok read ++ others
    → LiesInUnit table u e read))
unfolding root_at root_code_at entry_at
root_lies u table inside = simp (bind-bind, bind-cond) (then_gives (code_goes u.entries)
    (λ code p. test_gives (eqb code.0 0) (λ _. value_gives tt) (λ _. then_gives
    (was (declaration code.0 table)) (λ found is. then_gives (found_some found) (λ d some.
    let start = goes_then inside p in
    value_gives (λ read others list. record {
      code = code.0;
      declared = d;
      start = start.taken;
      fits = start.enough;
      is = is ∙ ap (λ (o : Option Declaration). Ok o) some;
      tag = refl;
      lie = rw start.is at (values_lie u.encoding read d.specifications code.1 others list);
    }))))))

pub root_values_lie : RootValuesLie
root_values_lie section i rest table u e read others unit root =
    let inside = ((unit_takes section i).gives (u, rest) unit).inside in
    (root_lies u table inside).gives (Some e) root read others

-- ---- an attribute whose value has no bytes

abbrev pub empty : Specification → Input → DebugAttribute
empty s i = record { name = s.name; form = s.form; value = front 0 i }

-- what such an attribute is, and that it has no number and names no place
pub record IsEmpty (encoding : Encoding) (s : Specification) (i : Input) : Type 0 where
  pub read : attribute_at encoding s i ≡ Ok (empty s i, i)
  pub numberless : number_of (empty s i) ≡ None
  pub placeless : (format : Format) → place_of format (empty s i) ≡ None

empty_read : (encoding : Encoding) (s : Specification) (i : Input) → named_form_at s.form i ≡
    Ok (s.form, i) → layout_of encoding s.form ≡ Some (Fixed 0)
    → attribute_at encoding s i ≡ Ok (empty s i, i)
unfolding attribute_at value_at past_value skip_at split_at
empty_read encoding s i named layout =
    let fits = le-ltb (length i.bytes) 0 (omega arith) in
    rw (named, layout, fits, after-zero i, add-zero, sub_self i.place, fits) refl

pub is_empty : (encoding : Encoding) (s : Specification) (i : Input) → has_bytes s ≡ false
    → IsEmpty encoding s i
unfolding number_of place_of
is_empty encoding s i none = record {
  read = empty_read encoding s i (grind (arith, named_form_cases s.form i)) (grind arith);
  numberless = grind arith;
  placeless = λ format. grind arith;
}

-- ---- the first number

-- it is among those that are needed
pub first_needed : (name : ℕ) (encoding : Encoding) (unmet : UnmetNames) (ss : List Specification)
    (i : Input) → first_number name (attributes encoding (needed unmet ss) i)
    ≡ first_number name (attributes encoding ss i)
first_needed name encoding unmet [] i = refl
first_needed name encoding unmet (s ∷ ss) i =
    let read = λ (h : has_bytes s ≡ false). (is_empty encoding s i h).read in
    let none = λ (h : has_bytes s ≡ false). (is_empty encoding s i h).numberless in
    grind (arith, read, none, first_needed name encoding (met unmet s.name) ss)

-- ---- of each name that may name a split object the first attribute

-- the first of each name, before and among others
abbrev pub joined : SplitAttributes → SplitAttributes → SplitAttributes
joined before rest = record {
  dwo_name = option_or before.dwo_name rest.dwo_name;
  gnu_dwo_name = option_or before.gnu_dwo_name rest.gnu_dwo_name;
  comp_dir = option_or before.comp_dir rest.comp_dir;
  str_offsets_base = option_or before.str_offsets_base rest.str_offsets_base;
}

-- those before and those that are left
abbrev pub joined_rest : Format → SplitAttributes → List (Result DebugAttribute ReadError)
    → Result SplitAttributes ReadError
joined_rest format before rest = all_read rest >>= λ attributes.
    Ok (joined before (split_attributes format attributes))

joined-first : (format : Format) (before : SplitAttributes) (a : DebugAttribute)
    (rest : List DebugAttribute) → joined before (split_attributes format (a ∷ rest)) ≡ joined
    (with_attribute format before a) (split_attributes format rest)
joined-first format before a rest = grind arith

pub after_first : (format : Format) (before : SplitAttributes) (a : DebugAttribute)
    (rest : List (Result DebugAttribute ReadError)) → joined_rest format before (Ok a ∷ rest)
    ≡ joined_rest format (with_attribute format before a) rest
after_first format before a rest = bind-bind (all_read rest) _ _
    ∙ bind_alike (all_read rest) _ _ (λ others _. ap Ok (joined-first format before a others))

-- ---- those that are needed

-- the names of which none was found
abbrev unmet_of : SplitAttributes → UnmetNames
unmet_of before = record {
  dwo_name = is_none before.dwo_name;
  gnu_dwo_name = is_none before.gnu_dwo_name;
  comp_dir = is_none before.comp_dir;
}

-- an attribute takes its name out
unmet_behind : (format : Format) (before : SplitAttributes) (a : DebugAttribute)
    → unmet_of (with_attribute format before a) ≡ met (unmet_of before) a.name
unmet_behind format before a = grind arith

-- an attribute that isn't the first of its name counts for nothing
passed_over : (format : Format) (before : SplitAttributes) (a : DebugAttribute) → place_of format a
    ≡ None → is_unmet (unmet_of before) a.name ≡ false → with_attribute format before a ≡ before
passed_over format before a none known = grind (arith, none, known)

-- what is found is found among those that are needed
after_needed : (format : Format) (encoding : Encoding) (before : SplitAttributes)
    (ss : List Specification) (i : Input) → joined_rest format before (attributes encoding
    (needed (unmet_of before) ss) i) ≡ joined_rest format before (attributes encoding ss i)
after_needed format encoding before [] i = refl
after_needed format encoding before (s ∷ ss) i = by-bool _ (is_needed (unmet_of before) s)
    (λ some. rw some (by-result _ (attribute_at encoding s i) (λ x is.
    let name = ((attribute_lies encoding s i).gives x is).name in
    let first = after_first format before x.0 in
    let rest = attributes encoding (needed (met (unmet_of before) s.name) ss) x.1 in
    let same : joined_rest format (with_attribute format before x.0) rest
    ≡ joined_rest format (with_attribute format before x.0) (attributes encoding ss x.1) =
    rw (← name, ← unmet_behind format before x.0)
    (after_needed format encoding (with_attribute format before x.0) ss x.1) in
    rw is (first rest ∙ same ∙ sym (first (attributes encoding ss x.1))))
    (λ e is. rw is refl))) (λ none. let needless = neither (has_bytes s) _ none in
    let is = is_empty encoding s i needless.0 in
    let same = passed_over format before (empty s i) (is.placeless format) needless.1 in
    let unmet : met (unmet_of before) s.name ≡ unmet_of before =
    sym (unmet_behind format before (empty s i)) ∙ ap unmet_of same in
    rw (none, is.read, unmet) (after_needed format encoding before ss i
    ∙ sym (after_first format before (empty s i) (attributes encoding ss i)
    ∙ ap (λ (b : SplitAttributes). joined_rest format b (attributes encoding ss i)) same)))

-- what names the split object is found among the attributes that are needed
pub split_needed : (format : Format) (encoding : Encoding) (ss : List Specification) (i : Input)
    → split_in format (attributes encoding (needed none_met ss) i)
    ≡ split_in format (attributes encoding ss i)
unfolding split_in
split_needed format encoding ss i = after_needed format encoding none_found ss i
