use Rattle.std.proofs.{Common.arith, lemmas.Grind.common_steps}
use Rattle.dwp_elf.proofs.ReadingBack.{length-file_text}
use Rattle.dwp_elf.proofs.object.WritableObject.file_size.Goals as goal

pub returns-clause-size : goal.returns-clause-size
returns-clause-size c = grind (arith, common_steps, length-file_text)
