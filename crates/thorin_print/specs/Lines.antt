-- Numbers as they are printed, and the end of a line.
use Rattle.std.specs.Prelude.{ℕ, ◌-◌, false, List, [], ◌∷◌, ◌++◌, length, replicate}
use Rattle.std.specs.Fmt.{digits}

-- lower-case hexadecimal digits
abbrev pub hex : ℕ → List ℕ
hex n = digits 16 false n

-- the same, with zeros in front up to sixteen
unfoldable pub hex16 : ℕ → List ℕ
hex16 n = replicate (16 - length (hex n)) 48 ++ hex n

-- the same up to eight
unfoldable pub hex8 : ℕ → List ℕ
hex8 n = replicate (8 - length (hex n)) 48 ++ hex n

-- the end of a line
abbrev pub line_end : List ℕ
line_end = 10 ∷ []
