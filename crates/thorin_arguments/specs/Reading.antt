-- What reading words by the grammar gives.
use Rattle.std.specs.Prelude.{◌≡◌, ◌⊎◌, Bool, false, true, is_some, List, Option, Result, Ok, Err}
use Rattle.clap.specs.Walk.{Text}
use Rattle.clap.specs.Words.{found_of, kind_of, rows_of, subcommand_rows_of}
use Rattle.clap.specs.declared.error.Error.{Error}
use Rattle.clap.specs.declared.error.kind.ErrorKind.TheVariants as kinds
use Rattle.clap.specs.declared.parser.matches.ArgMatches.{ArgMatches}
use Rattle.clap.specs.Simple.{App}
use Rattle.thorin_arguments.specs.Grammar.{AreMatchesOf, AreRefused, AskForText, IsLine, IsText}
use Rattle.thorin_arguments.specs.Grammar.{read_words}
use Rattle.thorin_arguments.specs.Wrong.{is_wrong_line}

-- whether options of matches don't go together
abbrev pub are_wrong : (of_peer : Bool) → ArgMatches → Bool
are_wrong of_peer m = is_wrong_line of_peer (rows_of (found_of m)) (subcommand_rows_of m)

-- whether options of matches go together; they don't, or memory ran out
abbrev pub IsTested : (of_peer : Bool) → ArgMatches → Result (Unit {0}) Error → Type 0
IsTested of_peer matches (Ok _) = are_wrong of_peer matches ≡ false
IsTested of_peer matches (Err e) = (kind_of e ≡ kinds.OutOfMemory)
    ⊎ (¬ IsText (kind_of e) × (are_wrong of_peer matches ≡ true))

-- why words aren't read: memory ran out; they ask for a text; they are refused
abbrev pub IsUnread : (peer : Option Text) → List Text → Error → Type 0
IsUnread peer words e = (kind_of e ≡ kinds.OutOfMemory)
    ⊎ ((IsText (kind_of e) × AskForText peer words)
    ⊎ (¬ IsText (kind_of e) × AreRefused peer words))

-- the matches of words, whose options go together; or why there are none
abbrev pub IsReadAs : (peer : Option Text) → List Text → Result ArgMatches Error → Type 0
IsReadAs peer words (Ok m) =
    AreMatchesOf peer words (rows_of (found_of m)) (subcommand_rows_of m)
    × (are_wrong (is_some peer) m ≡ false)
IsReadAs peer words (Err e) = IsUnread peer words e

-- these words are what the grammar has of a line
abbrev pub AreReadAs : (peer : Option Text) → (line words : List Text) → Type 0
AreReadAs peer line words = (app : App) → IsLine peer app → read_words peer app line ≡ words
