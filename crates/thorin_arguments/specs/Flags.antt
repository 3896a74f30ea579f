-- Options without a value.
use Rattle.std.specs.Prelude.{Bool, false, List, codes}
use Rattle.std.specs.Option.{option_map_or}
use Rattle.std.specs.Str.{bytes_eq}
use Rattle.clap.specs.Walk.{Row, Text, one_of}

-- whether one is given
abbrev pub is_set : List Row → Text → Bool
is_set rows name = option_map_or (λ text. bytes_eq text (codes "true")) (one_of name rows) false
