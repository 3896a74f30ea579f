-- A name out of a file or of the command line as it is printed.
use Rattle.std.specs.Prelude.{ℕ, ◌+◌, ◌*◌, ◌-◌, List, ◌++◌, codes, length, take, drop, nat_le}
use Rattle.std.specs.Prelude.{if◌then◌else◌}
use Rattle.std.specs.Fmt.Cut.{floor_char_boundary}
use Rattle.thorin_words.specs.Printed.{printed}

-- a text that is longer than two ends and two dots is cut to its ends, by whole characters
unfoldable pub cut : (end : ℕ) → List ℕ → List ℕ
cut end text = if nat_le (length text) (2 * end + 2) then text
    else take (floor_char_boundary text end) text
    ++ (codes ".." ++ drop (floor_char_boundary text (length text - end)) text)

-- a name without a byte that forges a line, cut where it is long, before controls are spelled and
-- once they are
unfoldable pub shown_by : (end : ℕ) → List ℕ → List ℕ
shown_by end name = cut end (printed (cut end name))

-- a name as it is printed: of more than 4,096 bytes the ends
abbrev pub shown : List ℕ → List ℕ
shown name = shown_by 2047 name

-- a name in a line that many units may have: of more than 768 bytes the ends
abbrev pub shown_briefly : List ℕ → List ℕ
shown_briefly name = shown_by 383 name
