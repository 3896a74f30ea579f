use Rattle.{dwp_elf_read.specs.View.elf, std.proofs.Common.arith}
use Rattle.thorin_inputs.proofs.Counted.{each_end}
use Rattle.thorin_inputs.proofs.overlaps.each_sizes.Goals as goal

pub returns : goal.returns
returns c =
    let none = each_end (elf c.args.file.now).sections c.loop-i.i (omega arith) in
    omega (arith, none, c.loop-i.invariant.all, c.loop-i.invariant.fits)
