use Rattle.{std.proofs.KnownBytes.Keeps-refl, thorin_print.proofs.Printed.grown}
use Rattle.thorin_check.proofs.Checked.{checked, file_read, printed_some}
use Rattle.std.proofs.Common.{refl}
use Rattle.thorin_check.proofs.checking.check_by.Goals as goal

pub returns-in_default : goal.returns-in_default
returns-in_default g c =
    file_read _ _ _ _ _ _ _ _ c.in_ok-bytes.ensures.read c.as_slice.ensures.value
    (rw c.in_default.ensures (refl, Keeps-refl _))

pub returns-then-has_no_index : goal.returns-then-has_no_index
returns-then-has_no_index g c =
    file_read _ _ _ _ _ _ _ _ c.in_ok-bytes.ensures.read c.as_slice.ensures.value
    (rw (c.in-Ok.ensures, ← c.has_no_index.ensures, c.if-has_no_index.true) (refl, Keeps-refl _))

pub returns-in-Ok-check_all : goal.returns-in-Ok-check_all
returns-in-Ok-check_all g c =
    let checked = checked (g.F.FileReader.offer c.args.files.now)
    (record { paths = c.args.executables.now; reading = c.args.reading }) _
    c.as_slice-entries.result.now _ _ _ c.finish.result
    (rw c.as_slice-entries.ensures.value c.in_ok-entries.ensures) refl c.new.ensures.bytes refl
    c.in-Ok-check_all.ensures c.finish.ensures in
    file_read _ _ _ _ _ _ _ c.finish.result c.in_ok-bytes.ensures.read c.as_slice.ensures.value
    (rw (c.in-Ok.ensures, ← c.has_no_index.ensures, c.if-has_no_index.false) checked)

pub returns : goal.returns
returns g c =
    let grows = grown _ _ _ c.in-Err.ensures.1
    (printed_some _ _ _ c.print.result c.print.ensures) in
    file_read _ _ _ _ _ _ _ _ c.in_ok-bytes.ensures.read c.as_slice.ensures.value
    (rw (c.in-Ok.ensures, ← c.has_no_index.ensures, c.if-has_no_index.false)
    (c.in-Err.ensures.0, grows))
