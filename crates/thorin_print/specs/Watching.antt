-- What is known of a writer to which lines are printed.
use Rattle.std.specs.Prelude.{◌≡◌, true}
use Rattle.thorin_print.specs.declared.line_output.WatchedLines.{WatchedLines}

-- a line couldn't be printed to it
abbrev pub LacksLine : {W : Type 0} → WatchedLines W → Type 0
LacksLine lines = lines.has_failed ≡ true
