-- What is compared of the file that was made, section by section.
use Rattle.dwp_elf_read.specs.Elf.{Elf}
use Rattle.dwp_decompress.specs.declared.agree.Expected as declared
use Rattle.dwp_decompress.specs.Result.{result_file, plain_contents}

-- the file that is to come of another
abbrev pub expected_file : declared.Expected → Elf → Elf
expected_file expected file = result_file expected.names expected.added.now file
    (plain_contents expected.contents.now.items)
