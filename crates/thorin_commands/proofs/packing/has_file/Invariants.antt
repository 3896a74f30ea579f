use Rattle.{std.proofs.Common.take, thorin_commands.specs.Packing.AllApart}
use Rattle.thorin_commands.proofs.packing.has_file.Given as goal

-- those so far are apart
abbrev pub invariant-loop-name : goal.invariant-loop-name
invariant-loop-name g l = AllApart (g.F.FileSystem.known l.files) l.file (take l.name-index l.names)
