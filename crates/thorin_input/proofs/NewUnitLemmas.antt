-- The names of units, what `==` says of them and what is kept for one; a unit that is added last.
use Rattle.std.proofs.Common.{[], All, ap, map, Result, rules, Some, suc, take, ◌++◌, ◌<◌, ◌∙◌, ◌∷◌}
use Rattle.std.proofs.Common.{arith, Bool, get_or-take, length, List, None, Option, refl, slice_get}
use Rattle.std.proofs.lemmas.List.Elements.{All-push}
use Rattle.std.proofs.lemmas.{List.map_push, Option.get_or_from_slice_get, Option.slice_get_within}
use Rattle.thorin_index.{proofs.Held.at_least, specs.declared.entry.IndexEntry.IndexEntry}
use Rattle.thorin_input.specs.NewUnits.{kept_bytes, NewUnit, or_held}
use Rattle.{dwp_table.specs.declared.object.DwarfObject.DwarfObject, thorin_index.specs.Rows.blank}
use Rattle.{std.proofs.Common.ℕ, std.proofs.Common.◌≡◌, thorin_input.specs.Names.same_name}
use Rattle.{std.specs.Map.lookup, thorin_input.specs.declared.held.NewUnit.NewUnit as CodeUnit}
use Rattle.{std.specs.Result.OnErr, std.specs.Result.OnOk, thorin_input.specs.UnitView.new_unit}
use Rattle.dwp_table.specs.contracts.object.DwarfObjectPartialEq.TheImpl as derived

-- `==` is the same name
pub same_name-is : (a : DwarfObject) → derived.eq-value.it a ≡ same_name a
same_name-is a =
    let at : (b : DwarfObject) → derived.eq-value.it a b ≡ same_name a b = λ b. grind rules in
    λ i b. at b i

-- the units with their rows
abbrev pub with_rows : List IndexEntry → List (DwarfObject × CodeUnit)
    → List (DwarfObject × NewUnit)
with_rows rows units = map
    {B = DwarfObject × NewUnit} (λ (e : DwarfObject × CodeUnit). (e.0, new_unit rows e.0 e.1)) units

-- the bytes of a unit that is added, or else those that are held
abbrev pub own_or_held : Option CodeUnit → Option (List ℕ) → Option (List ℕ)
own_or_held (Some unit) held = Some unit.bytes.now
own_or_held None held = held

looked_up : (test : DwarfObject → Bool) (rows : List IndexEntry)
    (units : List (DwarfObject × CodeUnit)) (held : Option (List ℕ))
    → own_or_held (lookup test units) held ≡ or_held (lookup test (with_rows rows units)) held
looked_up test rows [] held = refl
looked_up test rows (e ∷ es) held = grind (rules, looked_up test rows es held)

module _ (held : List (DwarfObject × List ℕ)) (rows : List IndexEntry)
    (units : List (DwarfObject × CodeUnit)) (name : DwarfObject) where
  -- what is kept for a name, by what is found among the units that are added
  pub kept-are : (found : Option CodeUnit) → found ≡ lookup (derived.eq-value.it name) units →
      own_or_held found (lookup (same_name name) held) ≡ kept_bytes held (with_rows rows units) name
  kept-are found is = ap (λ u. own_or_held u (lookup (same_name name) held))
      (is ∙ ap (λ f. lookup f units) (same_name-is name))
      ∙ looked_up (same_name name) rows units (lookup (same_name name) held)

  -- nothing is kept for a name that isn't among these
  pub not_added : kept_bytes held (with_rows rows units) name ≡ None
      → lookup (derived.eq-value.it name) units ≡ None
  not_added none = grind (rules, kept-are _ refl)

-- the number of each unit is one of the rows
abbrev pub AreNumbered : List IndexEntry → List (DwarfObject × CodeUnit) → Type 0
AreNumbered rows units = All (λ (e : DwarfObject × CodeUnit). e.1.row_number < length rows) units

-- where there are more rows, each unit has its number still, and the row of it
module _ (rows more : List IndexEntry) (begins : take (length rows) more ≡ rows) where
  pub numbered_still : (units : List (DwarfObject × CodeUnit)) → AreNumbered rows units
      → AreNumbered more units
  numbered_still units numbered k d less =
      omega (arith, at_least rows more begins, numbered k d less)

  with_more_rows : (units : List (DwarfObject × CodeUnit)) → AreNumbered rows units
      → with_rows more units ≡ with_rows rows units
  with_more_rows [] numbered = refl
  with_more_rows (e ∷ es) numbered = grind (
    rules,
    get_or-take (length rows) more e.1.row_number blank (numbered 0 e (omega arith)),
    with_more_rows es (λ k d less. numbered (suc k) d (omega arith)),
  )

  -- a unit that was added last
  module _ (before : List (DwarfObject × CodeUnit)) (numbered : AreNumbered rows before)
      (e : DwarfObject × CodeUnit) (nameless : IndexEntry)
      (there : slice_get more e.1.row_number ≡ Some nameless) where
    pub numbered_last : AreNumbered more (before ++ e ∷ [])
    numbered_last = All-push (λ (d : DwarfObject × CodeUnit). d.1.row_number < length more) before e
        (numbered_still before numbered) (slice_get_within more e.1.row_number nameless there)

    pub added_last : (row : IndexEntry) (now : List (DwarfObject × CodeUnit)) → record nameless
        { id = e.0 } ≡ row → now ≡ before ++ e ∷ [] → with_rows more now ≡ with_rows rows before
        ++ (e.0, record { place = e.1.place; bytes = e.1.bytes.now; row = row }) ∷ []
    added_last row now named is = rw is (map_push {Y = DwarfObject
        × NewUnit} (λ (d : DwarfObject × CodeUnit). (d.0, new_unit more d.0 d.1)) before e ∙ rw (
          with_more_rows before numbered,
          get_or_from_slice_get more e.1.row_number nameless blank there,
          named,
        ) refl)

-- what follows of a value and of an error follows of both
pub either_way : {T E : Type 0} (r : Result T E) (P Q R : Type 0) → OnOk r P → OnErr r Q → (P → R)
    → (Q → R) → R
either_way r P Q R p q f g = grind rules
