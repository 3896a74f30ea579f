-- A written package that is an input again (DWARF 5, 7.3.5).
use Rattle.std.specs.Prelude.{◌≡◌, true, Ok, IsPermutation}
use Rattle.dwp_elf.specs.Contents.{KindsDiffer}
use Rattle.dwp_elf.specs.FileText.{Object as File, file_text}
use Rattle.dwp_elf.specs.Written.{written_elf}
use Rattle.dwp_elf_read.specs.Elf.{elf_of}
use Rattle.thorin_join.specs.Builder.{State, order_of, start, taken, finish_test, IsFinishedState}
use Rattle.thorin_join.specs.Meaning.{Members}
use Rattle.thorin_again.specs.OneEncoding.{AnswersAs}
use Rattle.thorin_again.specs.Own.{packs_again}
use Rattle.thorin_again.specs.OwnRefusals.{UnlessForeseen}
use Rattle.thorin_join.specs.Represents.{IsSoundBegun, units_in}

-- the file's bytes are taken by any package of their byte order and by a new one, unless a
-- compilation unit is there already or the offset of a string doesn't fit
abbrev pub IsAccepted : File → Type 0
IsAccepted file = (before : State) → IsSoundBegun before.begun
    → order_of before.begun file.order ≡ file.order → UnlessForeseen (taken (file_text file) before)

-- so is the file of a state that packs again, once it is written and read back as an ELF file, as
-- `write` says
abbrev pub IsAcceptedOnceWritten : State → File → Type 0
IsAcceptedOnceWritten state file = packs_again state ≡ true → KindsDiffer file.contents
    → elf_of (file_text file) ≡ Ok (written_elf file) → IsAccepted file

-- a new package takes the file's bytes, has just these units then, in some order, and what is
-- packed of it alone answers as these units, strings and all, once it is written and read back as
-- an ELF file
pub record IsAcceptedByNew (units : Members) (file : File) : Type 0 where
  pub after : State
  pub is : taken (file_text file) start ≡ Ok after
  pub units_are : IsPermutation units (units_in after)
  pub answers : (alone : File) → finish_test after ≡ Ok tt → IsFinishedState after alone
      → KindsDiffer alone.contents → elf_of (file_text alone) ≡ Ok (written_elf alone)
      → AnswersAs units (file_text alone)

-- so it is with the file of a state that packs again, once it is written and read back
abbrev pub IsAcceptedByNewOnceWritten : State → File → Type 0
IsAcceptedByNewOnceWritten state file = packs_again state ≡ true → KindsDiffer file.contents
    → elf_of (file_text file) ≡ Ok (written_elf file) → IsAcceptedByNew (units_in state) file
