-- The type units that an input's steps pass over and find to differ are those of its list of units.
use Rattle.thorin.specs.Differing.{differing, differing_by, input_units, object_units, read_bytes}
use Rattle.thorin_input.specs.NewUnits.{Adding, New, NewUnit, with_first, with_unit}
use Rattle.thorin_join.proofs.Joined.{source-made, takes, with_all_parts}
use Rattle.thorin_join.proofs.Terms.{Elf, inl, List, None, Option, refl, Some, UnitRead, Used, ◌++◌}
use Rattle.thorin_join.proofs.Terms.{[], ap, inr, map, Ok, sym, ℕ, ◌∷◌, ◌≡◌}
use Rattle.thorin_join.proofs.Terms.{append-nil, append_assoc, IndexEntry, InProgress, source_units}
use Rattle.thorin_join.proofs.Terms.{bind-was, DwarfObject, map-append, Meaning, same-ok, same_name}
use Rattle.thorin_join.specs.{Builder.package_or_new, Represents.meaning_at, Represents.units_begun}
use Rattle.thorin_join.{proofs.Parts.each-unit, specs.State.adding, specs.State.held_units}
use Rattle.thorin_join.{proofs.Units.Steps, proofs.Units.units-read, specs.Builder.differing_begun}
use Rattle.{dwp_units.specs.Units.Unit as Header, std.proofs.lemmas.Map.Made.lookup-map_values}
use Rattle.{std.proofs.Common.rules, thorin.specs.Differing.Bytes, thorin.specs.Differing.own_bytes}
use Rattle.{std.proofs.lemmas.Simd.map-map, thorin_again.proofs.Lists.begun-now}
use Rattle.thorin.proofs.laws.passed_type_units_are_compared.Goals as goal

-- ---- what steps do

abbrev new_bytes : List (DwarfObject × NewUnit) → Bytes
new_bytes us = map {B = DwarfObject × List ℕ} (λ u. (u.0, u.1.bytes)) us

module _ (adding : Adding) where
  -- a unit is passed over, or brought; `later` says what is found to differ behind it
  one-step : (old : Option (List ℕ)) (from : Used) (name : DwarfObject) (unit : Header)
      (before after : New) (later : Bytes → List ℕ)
      → with_unit old adding from name unit before ≡ Ok after
      → after.differing ++ later (new_bytes after.units)
      ≡ before.differing ++ differing_by old (name, unit.whole.bytes)
      (later (new_bytes before.units))
      (later (new_bytes before.units ++ (name, unit.whole.bytes) ∷ []))
  unfolding with_unit with_first
  one-step old from name unit before after later h =
      let own : DwarfObject × NewUnit → DwarfObject × List ℕ = λ u. (u.0, u.1.bytes) in
      grind (rules, append_assoc, map-append own before.units)

  -- what is found to differ, unit by unit
  steps-differ : (before after : New) (us : List (DwarfObject × UnitRead))
      → Steps adding before us after
      → after.differing ≡ before.differing ++ differing adding.held (new_bytes before.units)
      (read_bytes us)
  steps-differ before after [] same = rw (← same) (sym (append-nil before.differing))
  steps-differ before after (u ∷ us) (next, step, steps) =
      let rest : Bytes → List ℕ = λ brought. differing adding.held brought (read_bytes us) in
      let one = one-step _ step.from u.0 u.1.unit before next rest step.is in
      let kept = lookup-map_values (λ (unit : NewUnit). unit.bytes) (same_name u.0) before.units in
      grind (rules, steps-differ next after us steps, one, kept)

-- ---- a package

-- a package that was begun before, or is new
old-differs : (file : Elf) (begun : Option InProgress) (units : Bytes)
    → (package_or_new file begun).differing
    ++ differing (held_units (package_or_new file begun)) [] units
    ≡ differing_begun begun ++ differing (own_bytes (units_begun begun)) [] units
old-differs file None units = refl
old-differs file (Some made) units =
    let own : DwarfObject × Meaning → DwarfObject × List ℕ = λ u. (u.0, u.1.bytes) in
    ap (λ held. made.differing ++ differing held [] units) (sym (map-map own
    (λ (row : IndexEntry). (row.id, meaning_at made.file.order made.file.contents made.strings row))
    made.rows))

pub returns : goal.returns
unfolding input_units object_units
returns c bytes old new units h k =
    let t = takes bytes old.begun new.begun (begun-now bytes old new h) in
    let made = package_or_new t.file old.begun in
    let read = rw t.opens at k in
    let before = old-differs t.file old.begun units in
    elim t.does [
      | inl there ↦
          let u = there.1 in
          let s = bind-was (source_units u.source) _ units
          (rw (there.0, u.object_is, u.encoding_is, u.indexes_are) at read) in
          let m = source-made u.source made u.made u.with in
          let steps = units-read (adding u.source made m.parts) m.new m.new_are in
          let keep = each-unit (λ p us now. now.differing ≡ p.differing) (λ p. refl)
          (λ p u us now same. same) (λ p u us now same. same)
          (with_all_parts made m.parts m.after (made.differing ++ m.new.differing)) m.new.units in
          let differ = steps-differ (adding u.source made m.parts)
          (record { units = []; differing = [] }) m.new steps.all steps.steps in
          cc (u.is, m.is, keep, differ, steps.is, s.1, s.2, before)
      | inr none ↦
          let no_units = same-ok [] units (rw none.0 at read) in
          cc (none.1, no_units, append-nil made.differing, before)
    ]
