-- How much a table of these strings holds.
use Rattle.std.specs.Prelude.{length, List, ℕ}
use Rattle.dwp_strings.specs.{declared.table.TableMark.TableMark, Strings.data_of}

abbrev pub mark_of : List (List ℕ) → TableMark
mark_of strings = record { strings = length strings; bytes = length (data_of strings) }
