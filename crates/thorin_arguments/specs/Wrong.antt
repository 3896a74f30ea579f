-- Options that don't go together, in words that the grammar takes.
use Rattle.std.specs.Prelude.{◌&&◌, ◌||◌, ◌==◌, Bool, true, false, not, List, [], Option, Some}
use Rattle.std.specs.Prelude.{None, ℕ, codes, if◌then◌else◌, is_some, length, unwrap_or}
use Rattle.std.specs.List.{list_any}
use Rattle.std.specs.Str.{bytes_eq}
use Rattle.clap.specs.Walk.{Row, Text, all_of, first_of}
use Rattle.thorin_arguments.specs.Flags.{is_set}

-- whether an option with a value is given
abbrev pub is_given : List Row → Text → Bool
is_given rows name = is_some (first_of name rows)

-- a word FROM=TO without its `=`
abbrev pub lacks_mark : Text → Bool
lacks_mark word = not (list_any (λ byte. byte == 61) word)

abbrev pub lack_marks : List Row → Bool
lack_marks rows = list_any lacks_mark (unwrap_or (all_of (codes "prefix-map") rows) [])

-- a package that is made has no name
abbrev pub lacks_output : List Row → Bool
lacks_output rows = not (is_given rows (codes "output")) && not (is_set rows (codes "missing"))

-- missing objects are listed of no executable; a word of prefixes has no mark; the last macros are
-- kept, and none are
abbrev pub is_wrong_packing : List Row → Bool
is_wrong_packing rows = (is_set rows (codes "missing") && not (is_given rows (codes "exec")))
    || (lack_marks rows
    || (is_set rows (codes "last-macros") && is_set rows (codes "no-macros")))

abbrev pub is_wrong_pack : List Row → Bool
is_wrong_pack rows = lacks_output rows || is_wrong_packing rows

-- how many executables are given
abbrev pub count_executables : List Row → ℕ
count_executables rows = length (unwrap_or (all_of (codes "exec") rows) [])

-- under a peer's name a single executable names the package
abbrev pub is_wrong_peer : List Row → Bool
is_wrong_peer rows = (lacks_output rows && not (count_executables rows == 1))
    || is_wrong_packing rows

-- a section's bytes stand alone
abbrev pub is_wrong_find : List Row → Bool
is_wrong_find rows = is_given rows (codes "section")
    && (is_given rows (codes "string") || is_set rows (codes "json"))

-- columns have sizes, and no names
abbrev pub is_wrong_list : List Row → Bool
is_wrong_list rows = is_set rows (codes "columns")
    && (is_set rows (codes "names") || is_set rows (codes "json"))

-- the same by a command's name
abbrev pub is_wrong_by : Text → List Row → Bool
is_wrong_by name rows = if bytes_eq name (codes "pack") then is_wrong_pack rows
    else if bytes_eq name (codes "find") then is_wrong_find rows
    else bytes_eq name (codes "list") && is_wrong_list rows

abbrev pub is_wrong : Option (Text × List Row) → Bool
is_wrong (Some command) = is_wrong_by command.0 command.1
is_wrong None = false

-- the same of a line: of a peer's own options, or of the command in it
abbrev pub is_wrong_line : (of_peer : Bool) → List Row → Option (Text × List Row) → Bool
is_wrong_line true rows command = is_wrong_peer rows
is_wrong_line false rows command = is_wrong command
