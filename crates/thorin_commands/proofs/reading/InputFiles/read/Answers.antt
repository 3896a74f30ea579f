use Rattle.{std.specs.Path.path_bytes, thorin_commands.proofs.Causes.through_given}
use Rattle.thorin_commands.specs.{Packing.paths_in, Taken.MayRepeat}
use Rattle.std.proofs.Common.{rules, ◌≡◌}
use Rattle.thorin_commands.proofs.reading.InputFiles.read.Goals as goal

pub returns-then-is_given-clause-offered : goal.returns-then-is_given-clause-offered
returns-then-is_given-clause-offered g c =
    let packing = c.args.self.now.packing.now in
    let text : c.path_text.result.now ≡ path_bytes c.args.path = c.path_text.ensures.bytes in
    through_given (paths_in packing.inputs) (paths_in packing.executables)
    (g.F.FileSystem.offer c.args.self.now.files.now) (path_bytes c.args.path)
    (MayRepeat packing.allows_overlap c.args.is_own) c.read_at.new.room.items c.read_at.result
    (paths_in packing.prefix_maps) (rw text at (c.is_given.ensures (search (rules, c.if-is_given))))
    c.read_at.ensures.offered
