-- How names of members are written (ar(5), the variants of System V, GNU and BSD).
use Rattle.std.specs.Prelude.{ℕ, ◌-◌, ◌==◌, nat_lt, List, length, take, slice_index, if◌then◌else◌}
use Rattle.std.specs.List.{before_first}

-- in the header: up to a slash (System V, GNU), and without one up to a blank (BSD)
unfoldable pub short_name : List ℕ → List ℕ
short_name field =
    if nat_lt (length (before_first (λ b. b == 47) field)) (length field)
    then before_first (λ b. b == 47) field
    else before_first (λ b. b == 32) field

-- a line without the slash at its end
abbrev pub without_slash : List ℕ → List ℕ
without_slash line =
    if slice_index line (length line - 1) == 47 then take (length line - 1) line else line

-- from a place of the table of names on: a line, and a slash at its end (System V, GNU)
unfoldable pub long_name : List ℕ → List ℕ
long_name names = without_slash (before_first (λ b. b == 10) names)

-- in front of the content: up to a zero byte (BSD)
unfoldable pub own_name : List ℕ → List ℕ
own_name bytes = before_first (λ b. b == 0) bytes
