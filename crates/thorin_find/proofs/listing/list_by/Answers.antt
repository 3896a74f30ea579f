use Rattle.thorin_find.proofs.Listed.{begun_listing, file_read, rest_begun, whole_listing}
use Rattle.{std.proofs.KnownBytes.Appends-nil, thorin_find.proofs.Sought.exit_is}
use Rattle.std.proofs.Common.{refl}
use Rattle.thorin_find.proofs.listing.list_by.Goals as goal

pub returns-in_default : goal.returns-in_default
returns-in_default g c =
    file_read _ _ _ _ _ _ _ _ c.in_ok-bytes.ensures.read c.as_slice.ensures.value
    (rw c.in_default.ensures (refl, Appends-nil _))

pub returns-in_err-is_all : goal.returns-in_err-is_all
returns-in_err-is_all g c =
    rw (exit_is c.from_residual-in_err-is_all.ensures.1)
    (file_read _ _ _ _ _ _ _ _ c.in_ok-bytes.ensures.read c.as_slice.ensures.value
    (rw c.in-Ok.ensures (begun_listing _ _ c.as_slice-entries.result.now
    (rw c.as_slice-entries.ensures.value c.in_ok-entries.ensures) _ _ _
    c.in_err-is_all.ensures.part)))

pub returns-in_err-given : goal.returns-in_err-given
returns-in_err-given g c =
    rw (exit_is c.from_residual-in_err-given.ensures.1)
    (file_read _ _ _ _ _ _ _ _ c.in_ok-bytes.ensures.read c.as_slice.ensures.value
    (rw c.in-Ok.ensures (rest_begun _ _ c.as_slice-entries.result.now
    (rw c.as_slice-entries.ensures.value c.in_ok-entries.ensures) _ _ _
    c.in_ok-is_all.ensures.lines.front)))

pub returns : goal.returns
returns g c =
    let listed = whole_listing _ _ c.as_slice-entries.result.now
    (rw c.as_slice-entries.ensures.value c.in_ok-entries.ensures) _ _ _ _
    c.in_ok-is_all.ensures.lines _ _ _ c.answer.result c.in_ok-given.ensures
    (rw c.as_bytes.ensures.value at c.answer.ensures) in
    file_read _ _ _ _ _ _ _ c.answer.result c.in_ok-bytes.ensures.read c.as_slice.ensures.value
    (rw c.in-Ok.ensures listed)
