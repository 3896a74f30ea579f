use Rattle.std.proofs.Common.{[], ap, List, map, None, Ok, refl, rules, subst, sym, ℕ, ◌∙◌, ◌≡◌}
use Rattle.thorin_builder.proofs.Inputs.{later-refl, parts-later, extends_by, units-later}
use Rattle.thorin_builder.specs.Repeated.{AddsNoUnit, IsLater, with_more}
use Rattle.thorin_builder.specs.declared.repeated.UnitlessInput.{UnitlessInput}
use Rattle.thorin_input.specs.Encodings.{encoding_of, file_encoding, one_encoding, own_encoding}
use Rattle.thorin_join.proofs.Terms.{Contents, kind_of, parts_of, place_of, with_parts, with_source}
use Rattle.thorin_join.proofs.Terms.{InProgress, new_units, take-length, with_input, with_new_units}
use Rattle.thorin_join.proofs.Terms.{append-nil, content_of, DwarfObject, IndexEntry, input_file_of}
use Rattle.thorin_join.proofs.Terms.{contribution_to, New, part_of, Source}
use Rattle.thorin_join.proofs.{Parts.content-with_parts, Parts.parts-none, Rows.not-shared}
use Rattle.thorin_join.specs.Builder.{source_for, with_source_or_new, with_units}
use Rattle.thorin_join.specs.State.{abbreviations_test, adding, Extends, held_units, with_all}
use Rattle.{dwp_elf_read.specs.View.elf, thorin_input.specs.Held.unit_bytes}
use Rattle.{std.proofs.lemmas.Option.IfSome_then, thorin_builder.proofs.Inputs.with_again}
use Rattle.{std.proofs.lemmas.Result.IfOk-weaker, thorin_builder.specs.StateView.in_progress_of}
use Rattle.thorin_builder.proofs.in_progress.InProgressDwarfPackage.adds_again.Goals as goal
use Rattle.thorin_input.specs.View as view

-- an input without units adds nothing
nothing-more : (made : InProgress) → with_more [] [] made ≡ made
unfolding with_parts
nothing-more made = ap (λ d. record made { differing = d }) (append-nil made.differing)

pub returns-then-not-with_units-clause-found : goal.returns-then-not-with_units-clause-found
unfolding own_encoding with_input
returns-then-not-with_units-clause-found c =
    let given = c.in_ok-file.ensures in
    let none = sym c.over-with_units.ensures.units ∙ c.if-not-with_units.true in
    rw (c.new.ensures.items, c.new-then-not-with_units.ensures.items) (record {
      own = None;
      own_is = rw (given, none) refl;
      adds = λ later after. rw (given, none, nothing-more later) refl;
      stays = λ later. rw (nothing-more later) (later-refl later);
    })

-- an input that adds no unit adds the same to each package that this one becomes
source-again : (source : Source) (again : UnitlessInput) (made later : InProgress) → AddsNoUnit
    source again made → IsLater made later → with_source source later ≡ Ok (with_again again later)
unfolding with_source abbreviations_test with_all with_new_units
source-again source again made later h k =
    let parts = map view.part again.parts.items in
    let new : New = record { units = []; differing = map (λ s. s.0) again.differing.items } in
    let units : new_units (adding source later parts) ≡ Ok new =
    rw k.held (units-later source _ _ (held_units made) k.more new h.units refl) in
    rw (
      parts-later source made.strings later.strings (parts, made.strings) h.parts k.strings,
      units,
      h.abbreviations,
    ) refl

-- units keep their bytes, since no part of an input is of a section of units
held-apart : (source : Source) (strings : List (List ℕ)) (parts : Contents)
    → parts_of source strings ≡ Ok (parts, strings) → (made : InProgress)
    → held_units (with_more parts [] made) ≡ held_units made
held-apart source strings parts h made =
    let c = made.file.contents in
    let stays : (row : IndexEntry) → unit_bytes (with_parts parts c) row ≡ unit_bytes c row = λ row.
    let place = place_of row.id row.debug_types in
    let none = parts-none source strings parts strings h (kind_of place)
    (not-shared place).0 (not-shared place).2 in
    ap (λ l. part_of l (contribution_to (kind_of place) row)) (content-with_parts
    (kind_of place) parts c ∙ rw none (append-nil (content_of (kind_of place) c))) in
    λ i. map {B = DwarfObject × List ℕ} (λ row. (row.id, stays row i)) made.rows

pub returns-clause-found : goal.returns-clause-found
unfolding own_encoding file_encoding with_input with_units with_source_or_new
returns-clause-found c =
    let made = in_progress_of c.args.self.now in
    let source = view.source c.in_ok-source.source in
    let given = c.in_ok-file.ensures in
    let units = sym c.over-with_units.ensures.units ∙ c.if-not-with_units.false in
    let source_is = c.in_ok-source.ensures.object in
    let object : input_file_of (elf c.in_ok-file.file) ≡ Ok source.object =
    search (rules, c.over-with_units.ensures.input, c.in_ok-object.was, source_is) in
    let encoding : encoding_of source.object ≡ Ok source.encoding =
    c.in_ok-source.ensures.encoding in
    let read : source_for made.file.order source.object ≡ Ok source =
    search (rules, c.endianness.ensures, source_is, c.in_ok-source.ensures.meaning) in
    IfOk-weaker c.try_again-found.result _ _
    (λ found known. IfSome_then found known (λ again adds. record {
      own = one_encoding source.object source.encoding;
      own_is = rw (given, units, object, encoding) refl;
      adds = λ later after.
          let again-read : source_for later.file.order source.object ≡ Ok source =
          rw after.order read in
          rw (given, units, object, again-read, source-again source again made later adds after)
          refl;
      stays = λ later. record {
        order = refl;
        strings = take-length later.strings;
        more = [];
        held = held-apart source made.strings _ adds.parts later
            ∙ sym (append-nil (held_units later));
      };
    })) c.try_again-found.ensures.found

pub returns-clause-same : goal.returns-clause-same
returns-clause-same c =
    let made = in_progress_of c.args.self.now in
    let again = c.try_again-found.ensures in
    c.restore.ensures made (subst (Extends made) (sym again.strings)
    (extends_by made (record made { strings = _ }) refl refl refl again.kept))
    c.in_ok-mark.ensures.mark
