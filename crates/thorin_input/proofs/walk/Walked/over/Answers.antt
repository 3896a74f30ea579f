use Rattle.dwp_base.specs.declared.section.SectionKind.TheVariants.{Abbrev, Info, Str}
use Rattle.dwp_elf_read.specs.{Elf.is_named, Elf.is_of, View.elf, View.placed, View.sections_left}
use Rattle.std.proofs.Common.{[], ap, map, not, Ok, refl, rules, sym, ◌∙◌, ◌∷◌, ◌≡◌}
use Rattle.thorin_input.proofs.Walking.{any-end, found-any, map-placed, those, used-kept, used-next}
use Rattle.thorin_input.specs.Used.{input_file_of, used_from}
use Rattle.thorin_input.{proofs.Walking.any-step, proofs.Walking.either-index, specs.View.used}
use Rattle.{dwp_base.specs.Sections.name_of, std.specs.List.list_any}
use Rattle.thorin_input.proofs.walk.Walked.over.Goals as goal

pub loop-section-init : goal.loop-section-init
loop-section-init c =
    let left : those (sections_left c.into_iter-section-iterator.result)
    ≡ (elf c.args.file.now).sections =
    ap (λ it. those (sections_left it)) c.into_iter-section-iterator.ensures.into_iter_gives
    ∙ ap those c.sections-section-items.ensures.sections
    ∙ map-placed (elf c.args.file.now) (elf c.args.file.now).sections in
    record {
      info = ap (list_any (is_of Info)) left;
      strings = ap (list_any (is_named (name_of Str))) left;
      abbreviations = ap (list_any (is_named (name_of Abbrev))) left;
      used = rw (c.new.ensures.items, left) refl;
    }

-- the section is the next one; and what is there is known with it
pub loop-section-preserved : goal.loop-section-preserved
loop-section-preserved c =
    let left : sections_left c.loop-section.section-iterator ≡ placed c.in-Some.section ∷
    sections_left c.next.new.self = search (rules, c.in-Some.ensures.steps) in
    let p = placed c.in-Some.section in
    let file = elf c.args.file.now in
    let before = c.loop-section in
    let so_far = before.invariant in
    record {
      info = rw c.is_of-with_units.ensures.named
          (any-step (is_of Info) before.with_units _ _ p file left so_far.info);
      strings = rw (c.is_called-has_strings.ensures, c.name.ensures)
          (any-step (is_named (name_of Str)) before.has_strings _ _ p file left so_far.strings);
      abbreviations = rw (c.is_called-has_abbreviations.ensures, c.name-in-loop-section.ensures)
          (any-step (is_named (name_of Abbrev)) before.has_abbreviations _ _ p file left
          so_far.abbreviations);
      used = elim c.if-is_none.branch [
        | goal.then-is_none w ↦ rw (w.fault-is, w.used-is, w.err-fault.ensures.value)
            (used-next before.fault before.used w.add.new.self w.add.result _ _ p _
            (c.is_none.ensures ∙ ap not w.if-is_none.true) left w.add.ensures so_far.used)
        | goal.else-is_none w ↦ rw (w.fault-is, w.used-is) (used-kept before.fault before.used _ _ _
            (c.is_none.ensures ∙ ap not w.if-is_none.false) so_far.used)
      ];
    }

pub invariant_of-input : goal.invariant_of-input
invariant_of-input c = let last = c.loop-section.used in record {
  no_index = rw (last.compilations_so_far, last.types_so_far)
      (ap not (either-index last.sections.items));
}

pub returns-clause-units : goal.returns-clause-units
returns-clause-units c =
    let left : sections_left c.loop-section.section-iterator ≡ [] =
    search (rules, c.in-None.ensures.steps) in
    any-end (is_of Info) c.loop-section.with_units _ (elf c.args.file.now) left
    c.loop-section.invariant.info

pub returns-clause-input : goal.returns-clause-input
unfolding input_file_of used_from
returns-clause-input c =
    let left : sections_left c.loop-section.section-iterator ≡ [] =
    search (rules, c.in-None.ensures.steps) in
    let last = c.loop-section in
    let file = elf c.args.file.now in
    let strings = any-end (is_named (name_of Str)) last.has_strings _ file left
    last.invariant.strings in
    let abbreviations = any-end (is_named (name_of Abbrev)) last.has_abbreviations _ file left
    last.invariant.abbreviations in
    elim c.match-fault-3.branch [
      | goal.in-Some-fault w ↦
          let fails = rw w.in-Some-fault.is at last.invariant.used in
          rw w.input-is (λ aside. rw (fails aside) refl)
      | goal.in-None-fault w ↦
          let all : used_from [] file.sections ≡ Ok (map used last.used.sections.items) =
          sym (rw (w.in-None-fault.is, left) at last.invariant.used) in
          rw (
            w.input-is,
            all,
            w.endianness.ensures,
            strings,
            abbreviations,
            found-any (is_named (name_of Str)) file.sections,
            found-any (is_named (name_of Abbrev)) file.sections,
          ) refl
    ]
