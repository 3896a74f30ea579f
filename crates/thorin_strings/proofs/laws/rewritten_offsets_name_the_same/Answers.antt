use Rattle.thorin_strings.proofs.Remapping.{range_named}
use Rattle.thorin_strings.proofs.laws.rewritten_offsets_name_the_same.Goals as goal

pub returns : goal.returns
returns c = λ order encoding section bytes size before rewritten after table ok. range_named order
    encoding section bytes size before (rewritten, after) table ok
