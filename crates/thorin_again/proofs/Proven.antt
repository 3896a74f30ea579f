-- What the laws say, for the functions that state them.
use Rattle.thorin_again.proofs.Lists.{again-exactly, inputs-whole, rows-taken}
use Rattle.thorin_again.proofs.Lists.{begun-now, input-order, inputs-hold, taken-holds, taken-plain}
use Rattle.thorin_again.proofs.{Accepted.own-all, Accepted.own-by-new, Meant.again-is}
use Rattle.thorin_again.proofs.{Opened.opened-elf, Opened.up-to-parts, Sections.identity-stays}

-- of inputs that are taken
pub ruleset taken = (begun-now, input-order, inputs-hold, inputs-whole, opened-elf, rows-taken)

-- of packages that are made of them
pub ruleset made = (again-exactly, again-is, identity-stays, own-all, own-by-new, up-to-parts)

pub ruleset proven = (taken, made, taken-holds, taken-plain)
