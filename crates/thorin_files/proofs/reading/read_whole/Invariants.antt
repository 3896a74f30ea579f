use Rattle.std.proofs.Common.{◌-◌, length}
use Rattle.thorin_files.proofs.reading.read_whole.Given as goal

abbrev pub decreases-loop-zeros : goal.decreases-loop-zeros
decreases-loop-zeros g l = l.needed - length l.room.items
