use Rattle.{dwp_base.specs.declared.section.SectionKind.TheVariants.Str, std.specs.List.list_any}
use Rattle.thorin_inputs.specs.InnerStrings.{begins_inside, first_content, is_inner, or_nothing}
use Rattle.{std.proofs.Common.drop, std.proofs.Common.◌&&◌, thorin_inputs.proofs.Counted.Left}
use Rattle.{dwp_elf_read.specs.View.elf, thorin_inputs.specs.InnerStrings.names}
use Rattle.thorin_inputs.proofs.overlaps.has_inner_beside.Given as goal

-- those that are counted and those that are left are all
abbrev pub invariant-loop-i : goal.invariant-loop-i
invariant-loop-i l =
    let file = elf l.file in
    let strings = or_nothing (first_content Str file.sections) in
    Left l.inner strings l.size (λ at. list_any (names l.order l.step at) (drop l.i file.sections)
    && begins_inside strings at) (is_inner file strings)
