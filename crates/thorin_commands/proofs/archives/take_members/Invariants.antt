use Rattle.{dwp_archive.specs.View.member, thorin_commands.specs.Archives.split_contents}
use Rattle.thorin_commands.specs.{Opened.TookEach, Packing.manner_of, Packing.reads}
use Rattle.std.proofs.Common.{map, take, ◌≡◌}
use Rattle.thorin_commands.proofs.archives.take_members.Given as goal

-- the members so far were taken, and nothing was told
abbrev pub invariant-loop-member : goal.invariant-loop-member
invariant-loop-member g l = record {
  took : TookEach (manner_of l.inputs.packing.now)
      (reads l.inputs.packing.now (g.F.FileSystem.offer l.inputs.files.now))
      (split_contents (map member (take l.member-index l.list))) l.fn.builder.state l.builder.state;
  kept : l.err ≡ l.fn.err;
}
