use Rattle.thorin_check.proofs.Checked.{broken_left, executable_read}
use Rattle.std.proofs.Common.{rules, true, ◌≡◌}
use Rattle.thorin_check.specs.Faults.{room_of}
use Rattle.thorin_check.proofs.executables.check_executable.Goals as goal

pub returns-in-Ok : goal.returns-in-Ok
returns-in-Ok g c =
    let room : c.max-room.result ≡ room_of c.as_slice-bytes.result.now = search rules in
    executable_read _ _ _ _ _ _ c.check_listed.result _ _ c.in_ok-read.ensures.read
    c.as_slice-bytes.ensures.value (rw c.in-Ok.ensures.opened (rw room at c.check_listed.ensures))

pub returns : goal.returns
returns g c =
    executable_read _ _ _ _ _ _ c.tell_error.result _ _ c.in_ok-read.ensures.read
    c.as_slice-bytes.ensures.value (broken_left _ _ true _ _ _ _ _ c.tell_error.result
    c.in-Err.ensures.opened c.tell_error.ensures.known c.tell_error.ensures.told)
