use Rattle.dwp_index.{proofs.Packages.met-next, specs.Firsts.found_in}
use Rattle.std.proofs.Common.{ap, arith, option_map, sym, ◌∙◌}
use Rattle.dwp_base.proofs.Finds.{slice_get_none}
use Rattle.dwp_elf_read.specs.View.{elf, section}
use Rattle.dwp_index.proofs.contents.first_sections.Goals.{in-Some, in_default}
use Rattle.dwp_index.proofs.contents.first_sections.Goals as goal

pub loop-i-preserved : goal.loop-i-preserved
loop-i-preserved c kind =
    let xs = (elf c.args.file.now).sections in elim c.match-section.branch [
      | in-Some w ↦
          let at = sym c.section.ensures.found ∙ ap (option_map section) w.in-Some.is in
          rw (w.firsts-is, w.meet.ensures kind) (met-next kind xs c.loop-i.i w.in-Some.next
          (found_in c.loop-i.firsts kind) at (c.loop-i.invariant kind))
      | in_default w ↦ absurd (slice_get_none xs c.loop-i.i (omega arith)
          (sym c.section.ensures.found ∙ ap (option_map section) w.in_default.is))
    ]
