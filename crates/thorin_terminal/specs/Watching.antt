-- What is known of a writer that is watched.
use Rattle.std.specs.Prelude.{Option}
use Rattle.std.specs.declared.io.Error.{Error}
use Rattle.thorin_terminal.specs.declared.pipes.WatchedWriter.{WatchedWriter}

-- why the last write to it that failed did
abbrev pub failure_of : {O : Type 0} → WatchedWriter O → Option Error
failure_of watched = watched.failure
