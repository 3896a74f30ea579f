-- The words of a peer's line as its grammar has them: long options that are cut short are whole.
use Rattle.std.specs.Prelude.{◌&&◌, ◌||◌, ◌++◌, Bool, List, [], ◌∷◌, Option, Some, None}
use Rattle.std.specs.Prelude.{codes, filter, if◌then◌else◌, nat_eq}
use Rattle.std.specs.List.{starts_with}
use Rattle.std.specs.Option.{option_map_or}
use Rattle.std.specs.Str.{bytes_eq}
use Rattle.clap.specs.Lexer.{long_of}
use Rattle.clap.specs.Walk.{Text}

-- whether a text begins so
abbrev pub begins : (start text : Text) → Bool
begins start text = starts_with nat_eq text start

-- whether a peer's name is that of LLVM's
abbrev pub is_of_llvm : (name : Text) → Bool
is_of_llvm name = begins (codes "llvm-") name

-- whether a word is one of LLVM's long options behind one dash
abbrev pub has_one_dash : Text → Bool
has_one_dash word = bytes_eq word (codes "-version") || bytes_eq word (codes "-help")
    || begins (codes "-continue-on-cu-index-overflow") word

-- that of some names which alone begins so; the name itself where none does, or several
abbrev pub only : (name : Text) → (begun : List Text) → Text
only name (whole ∷ []) = whole
only name _ = name

abbrev pub whole_name : (names : List Text) → (name : Text) → Text
whole_name names name = only name (filter (begins name) names)

-- what stands for a value that is left out
abbrev pub default_value : (name : Text) → Text
default_value name =
    if bytes_eq name (codes "continue-on-cu-index-overflow") then codes "=continue" else []

-- `--NAME` or `--NAME=VALUE`
abbrev pub long_word : (name : Text) → (value : Option Text) → Text
long_word name (Some value) = codes "--" ++ name ++ codes "=" ++ value
long_word name None = codes "--" ++ name ++ default_value name

abbrev pub whole_long : (names : List Text) → (word : Text) → Text
whole_long names word =
    option_map_or (λ long. long_word (whole_name names long.0) long.1) (long_of word) word

-- a word of a line whose long options have these names
abbrev pub whole_word : (of_llvm : Bool) → (names : List Text) → (word : Text) → Text
whole_word of_llvm names word =
    whole_long names (if of_llvm && has_one_dash word then codes "-" ++ word else word)

-- the words of such a line, up to a word `--`
abbrev pub completed : (of_llvm : Bool) → (names : List Text) → List Text → List Text
completed of_llvm names [] = []
completed of_llvm names (word ∷ rest) = if bytes_eq word (codes "--") then word ∷ rest
    else whole_word of_llvm names word ∷ completed of_llvm names rest
