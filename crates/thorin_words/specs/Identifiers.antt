-- Identifiers of units, as they are written on the command line.
use Rattle.std.specs.Prelude.{ℕ, ◌≤◌, List, length}
use Rattle.std.specs.Str.Parse.{IsNumeral}

-- 1 to 16 hexadecimal digits
abbrev pub IsIdentifier : List ℕ → Type 0
IsIdentifier text = IsNumeral 16 text × (length text ≤ 16)
