use Rattle.thorin_commands.specs.{Made.TookTelling, Packing.manner_of, Packing.reads}
use Rattle.std.proofs.Common.{length, take, ◌≡◌}
use Rattle.thorin_commands.proofs.making.fill.Given as goal

-- the inputs so far were taken and told, and each has a lack
abbrev pub invariant-loop-input : goal.invariant-loop-input
invariant-loop-input g l = record {
  count : length l.lacks.items ≡ length (take l.input-index l.list);
  told : TookTelling l.options.verbose l.inputs.packing.now.opens_archives
      (manner_of l.inputs.packing.now)
      (reads l.inputs.packing.now (g.F.FileSystem.offer l.inputs.files.now))
      (take l.input-index l.list) l.fn.builder.state l.builder.state
      (g.E.LineOutput.contents l.fn.err) (g.E.LineOutput.contents l.err) l.lacks.items;
}
