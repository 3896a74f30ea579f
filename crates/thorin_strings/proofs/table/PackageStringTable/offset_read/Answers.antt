use Rattle.thorin_strings.proofs.Remapping.{are_known_later, known_used}
use Rattle.std.proofs.Common.{rules}
use Rattle.thorin_strings.proofs.table.PackageStringTable.offset_read.Goals as goal

pub returns-clause-known : goal.returns-clause-known
returns-clause-known c = search (rules, are_known_later, known_used)
