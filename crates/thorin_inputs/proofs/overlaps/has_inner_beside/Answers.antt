use Rattle.thorin_inputs.proofs.overlaps.has_inner_beside.Goals.{else-holds-via-then-holds+in_ok-count+else-branch}
use Rattle.thorin_inputs.proofs.Counted.{not_too_large, section_counted, section_passed, sizes_none}
use Rattle.thorin_inputs.proofs.overlaps.has_inner_beside.Goals.{in-Some+else-holds, in_default}
use Rattle.thorin_inputs.specs.InnerStrings.{begins_inside, first_content, names, or_nothing}
use Rattle.thorin_inputs.proofs.overlaps.has_inner_beside.Goals.{else-holds-via-else-holds}
use Rattle.std.proofs.Common.{ap, arith, drop, length, refl, sym, ℕ, ◌&&◌, ◌+◌, ◌≡◌}
use Rattle.{dwp_base.proofs.Finds.slice_get_none, std.proofs.lemmas.List.drop_all}
use Rattle.thorin_inputs.proofs.Counted.{left_more, left_same, too_large}
use Rattle.dwp_base.specs.declared.section.SectionKind.TheVariants.{Str}
use Rattle.{dwp_elf_read.specs.View.elf, std.specs.List.list_any}
use Rattle.dwp_elf_read.specs.View as view
use Rattle.thorin_inputs.proofs.overlaps.has_inner_beside.Goals as goal

pub loop-i-init : goal.loop-i-init
loop-i-init c = record {
  within = record {
    summed = sizes_none c.or_nothing.result.now _ (λ at. rw c.new.ensures.empty refl);
    few = omega arith;
  };
  same = rw c.of-used.ensures.strings at c.or_nothing.ensures;
  file = refl;
  both = λ at. rw (
    c.new.ensures.empty,
    c.step_of-step.ensures.step,
    c.endianness-order.ensures,
    c.of-used.ensures.compilations,
    c.of-used.ensures.types,
    c.of-used.ensures.offsets.before,
  ) refl;
}

pub returns-then-branch : goal.returns-then-branch
returns-then-branch c =
    let sections = (elf c.args.file.now).sections in
    let rest = λ (at : ℕ). list_any (names c.endianness-order.result c.step_of-step.result at)
    (drop (c.loop-i.i + 1) sections)
    && begins_inside (or_nothing (first_content Str sections)) at in
    too_large c.loop-i.invariant rest c.in_ok-count.ensures (λ at.
    rw c.loop-i.invariant.same (section_counted _ _ _ sections c.loop-i.i
    (sym c.in-Some.ensures.found)
    _ (sym c.if-holds.ensures.filled) c.content.ensures)) c.if-branch.true

pub loop-i-preserved : goal.loop-i-preserved
loop-i-preserved c =
    let sections = (elf c.args.file.now).sections in
    let strings = or_nothing (first_content Str sections) in
    let was = c.loop-i.invariant in
    elim c.match-section.branch [
      | in-Some+else-holds w ↦ elim w.else-holds.branch [
        | else-holds-via-then-holds+in_ok-count+else-branch w' ↦ rw (w.inner-is, w'.inner-is)
            (left_more was _ w'.in_ok-count.ensures (λ at.
            rw was.same (section_counted _ _ _ sections c.loop-i.i
            (sym w.in-Some.ensures.found) _ (sym w'.if-holds.ensures.filled)
            w'.content.ensures)) w'.if-branch.false)
        | else-holds-via-else-holds w' ↦ rw (w.inner-is, w'.inner-is)
            (left_same was (λ at. ap (λ b. b && begins_inside strings at)
            (section_passed c.endianness-order.result c.step_of-step.result at sections c.loop-i.i
            (sym w.in-Some.ensures.found)
            (sym w'.if-holds.ensures.filled))))
      ]
      | in_default w ↦ absurd (slice_get_none sections c.loop-i.i (omega arith)
          (sym w.in_default.ensures.found))
    ]

pub returns : goal.returns
returns c =
    let sections = (elf c.args.file.now).sections in
    let used = c.of-used.ensures.offsets in
    let end : c.loop-i.i ≡ c.of-used.result.behind_offsets = omega (arith, used.low) in
    not_too_large c.loop-i.invariant (λ at. rw (
      end,
      c.endianness-order.ensures,
      used.left,
      drop_all (length sections) sections (omega arith),
    ) refl)
