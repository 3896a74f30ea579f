use Rattle.thorin_again.proofs.Opened.{own-offsets, own-plain, read-of}
use Rattle.thorin_again.proofs.laws.own_string_offsets_are_rewritten.Goals as goal

pub returns : goal.returns
returns c state encoding file own made begun plain indexes read =
    own-offsets (read-of own indexes read) (own-plain own begun plain)
