-- A part of a section is what is left behind its start of the bytes up to its end.
use Rattle.std.proofs.Common.{arith, drop, false, List, refl, Some, take, ℕ, ◌+◌, ◌-◌, ◌≡◌}
use Rattle.std.proofs.{lemmas.Bool.not-false, lemmas.List.drop-take}
use Rattle.dwp_base.specs.declared.section.Contribution.{Contribution}
use Rattle.dwp_index.specs.Package.{is_outside, lies_inside, part_of}

-- of a range that lies inside
pub part_of_range : (bytes : List ℕ) (range : Contribution) → is_outside bytes (Some range) ≡ false
    → drop range.offset.0 (take (range.offset.0 + range.size) bytes) ≡ part_of bytes (Some range)
part_of_range bytes range inside =
    let size : (range.offset.0 + range.size) - range.offset.0 ≡ range.size = omega arith in
    rw (drop-take range.offset.0 range.size bytes, size, not-false (lies_inside bytes range) inside)
    refl
