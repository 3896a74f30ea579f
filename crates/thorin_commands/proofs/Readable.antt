-- A written file is read back where its numbers fit, and no two contents are of one kind.
use Rattle.{dwp_elf.proofs.Changes.length-KindsDiffer, thorin_join.proofs.Files.fitting}
use Rattle.thorin_join.specs.{Join.IsPackageOf, Join.IsPackageOnceWritten, Meaning.Members}
use Rattle.dwp_elf.specs.{Contents.KindsDiffer, Numbers.Fits, Written.written_elf}
use Rattle.dwp_elf.specs.FileText.{file_text, headers_place, Object}
use Rattle.std.proofs.Common.{arith, length, Ok, ◌<◌, ◌^◌, ◌≡◌}
use Rattle.dwp_elf_read.specs.{Elf.elf_of, Layout.word_size}

-- by the law of written files, what is written is read back
pub readable : ((o : Object) → o.machine < 256 ^ 2
    → headers_place o.class o.contents < 256 ^ word_size o.class → length o.contents < 60000
    → elf_of (file_text o) ≡ Ok (written_elf o)) → (o : Object) → KindsDiffer o.contents
    → o.machine < 2 ^ 16 → Fits o → (units : Members) → IsPackageOnceWritten units o
    → IsPackageOf units (file_text o)
readable law o distinct machine fits units once =
    once distinct (law o (omega (arith, machine))
    (fitting o.class o.machine o.order o.contents fits)
    (omega (arith, length-KindsDiffer o.contents distinct)))
