use Rattle.dwp_elf.proofs.ReadingBack.{elf_of-file_text}
use Rattle.dwp_elf.proofs.laws.written_contents_are_read_back.Goals as goal

pub returns : goal.returns
returns c = elf_of-file_text
