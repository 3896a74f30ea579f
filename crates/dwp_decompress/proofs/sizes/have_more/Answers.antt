use Rattle.std.proofs.Common.{ap, arith, option_map, sym, ◌∙◌}
use Rattle.dwp_decompress.proofs.Sections.{size_past}
use Rattle.dwp_elf_read.specs.View.{elf, section}
use Rattle.dwp_decompress.proofs.sizes.have_more.Goals as goal

pub returns-then-left-size : goal.returns-then-left-size
returns-then-left-size c =
    let at = sym c.section.ensures.found ∙ ap (option_map section) c.in-Some.is in
    sym (size_past c.args.asked (elf c.args.file.now).sections c.loop-i.i c.loop-i.left _ at
    (omega arith)) ∙ c.loop-i.invariant
