use Rattle.dwp_elf_read.specs.{declared.error.ReadError.ReadError, View.bytes_of, View.elf}
use Rattle.thorin_c.proofs.Files.{contents_read, contents_stop, inside_each, IsPlaceOf}
use Rattle.{dwp_index.specs.Package.package_of, thorin_c.specs.Opening.package_in}
use Rattle.dwp_base.{proofs.KindsRead.read-more, specs.Sections.all_kinds}
use Rattle.std.proofs.Common.{ap, arith, refl, slice_set}
use Rattle.std.proofs.lemmas.Option.{slice_get-get_or}
use Rattle.thorin_c.proofs.opening.placed.Goals as goal

pub loop-kind-init : goal.loop-kind-init
loop-kind-init c = (refl, λ place kind lt at. absurd (omega (arith, lt)))

pub returns-in-Err-place-clause-fails : goal.returns-in-Err-place-clause-fails
unfolding package_of
returns-in-Err-place-clause-fails c =
    let stop = contents_stop (elf c.in-Ok.file).sections (bytes_of c.in-Ok.file)
    c.loop-kind.sections c.loop-kind.kind-index _ c.in-Err-place.e
    (slice_get-get_or all_kinds c.loop-kind.kind-index _ (omega (arith, c.loop-kind-test.true)))
    (c.in-Err-place.ensures.content, tt) c.loop-kind.invariant.1 in
    rw (c.in-Ok.ensures.meaning, stop) refl

pub loop-kind-preserved : goal.loop-kind-preserved
loop-kind-preserved c =
    read-more {E = ReadError} (IsPlaceOf (elf c.in-Ok.file).sections (bytes_of c.in-Ok.file))
    c.loop-kind.sections _ c.loop-kind.kind-index _ c.in-Ok-place.found
    c.loop-kind.invariant.0 c.loop-kind-test.true
    (slice_get-get_or all_kinds c.loop-kind.kind-index _ (omega (arith, c.loop-kind-test.true)))
    (ap (λ n. slice_set c.loop-kind.sections n c.in-Ok-place.found) c.rank.ensures)
    (c.in-Ok-place.ensures.content, c.in-Ok-place.ensures.inside) c.loop-kind.invariant.1

pub returns-clause-same : goal.returns-clause-same
unfolding package_of package_in
returns-clause-same c =
    let read = rw c.in-Ok.ensures.of_bytes at (contents_read (elf c.in-Ok.file).sections
    (bytes_of c.in-Ok.file) c.loop-kind.sections (λ place kind lt.
    c.loop-kind.invariant.1 place kind (omega (arith, lt, c.loop-kind-test.false)))
    c.number_of-big_endian.result) in
    rw (c.in-Ok.ensures.meaning, read, c.number_of-big_endian.ensures, c.endianness.ensures) refl

pub returns-clause-inside : goal.returns-clause-inside
returns-clause-inside c =
    rw c.in-Ok.ensures.of_bytes at (inside_each (elf c.in-Ok.file).sections
    (bytes_of c.in-Ok.file) c.loop-kind.sections (λ place kind lt.
    c.loop-kind.invariant.1 place kind (omega (arith, lt, c.loop-kind-test.false))))
