use Rattle.dwp_base.specs.declared.section.SectionKind.TheVariants.{CuIndex, Str, TuIndex}
use Rattle.thorin_inputs.proofs.overlaps.UsedSections.of.Goals.{in-Some, in_default}
use Rattle.std.{proofs.Common.arith, proofs.Common.sym, specs.Option.option_copied}
use Rattle.{dwp_base.proofs.Finds.slice_get_none, dwp_elf_read.specs.View.elf}
use Rattle.thorin_inputs.proofs.Counted.{between_next, met_next}
use Rattle.dwp_elf_read.specs.View as view
use Rattle.thorin_inputs.proofs.overlaps.UsedSections.of.Goals as goal

pub loop-i-preserved : goal.loop-i-preserved
loop-i-preserved c =
    let xs = (elf c.args.file.now).sections in
    let i = c.loop-i.i in
    let old = c.loop-i.used in
    let was = c.loop-i.invariant in
    elim c.match-section.branch [
      | in-Some w ↦ (
          let s = view.section w.in-Some.section in
          let at = sym w.in-Some.ensures.found in
          rw w.used-is (record {
            strings = rw (← w.add.ensures.strings) at
                (met_next Str xs i s (option_copied old.strings) at was.strings);
            compilations = rw (← w.add.ensures.compilations) at
                (met_next CuIndex xs i s (option_copied old.compilations) at was.compilations);
            types = rw (← w.add.ensures.types) at
                (met_next TuIndex xs i s (option_copied old.types) at was.types);
            offsets = rw (← w.add.ensures.first, ← w.add.ensures.behind) at
                (between_next at was.offsets);
          })
          )
      | in_default w ↦ absurd (slice_get_none xs i (omega arith) (sym w.in_default.ensures.found))
    ]
