use Rattle.dwp_elf.proofs.{Changes.length-KindsDiffer, ReadingBack.length-file_text}
use Rattle.dwp_elf.proofs.laws.written_files_have_their_size.Goals as goal

pub returns : goal.returns
returns c = record { size = length-file_text; sections = length-KindsDiffer }
