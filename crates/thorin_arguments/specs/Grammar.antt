-- The command lines of `thorin` and its peers, as clap takes them: the commands, and the options
-- and words of each.
use Rattle.std.specs.Prelude.{◌≡◌, ◌⊎◌, ℕ, Bool, true, false, List, [], ◌∷◌, ◌++◌, Option, Some}
use Rattle.std.specs.Prelude.{None, codes, filter_map, if◌then◌else◌, is_some}
use Rattle.std.specs.Borrow.{Bor}
use Rattle.clap.specs.Lexer.{usize_max}
use Rattle.clap.specs.Faults.{fault_of}
use Rattle.clap.specs.Kinds.{IsAmong}
use Rattle.clap.specs.Simple.{App, Shape, built, matches_of, new_rule, new_shape, subcommand_of}
use Rattle.clap.specs.Walk.{Row, Rule, Text, texts}
use Rattle.clap.specs.declared.builder.action.ArgAction.TheVariants.{Append, Set, SetTrue}
use Rattle.clap.specs.declared.builder.value_parser.ValueParser.TheVariants as parsers
use Rattle.clap.specs.declared.error.kind.ErrorKind.{ErrorKind}
use Rattle.clap.specs.declared.error.kind.ErrorKind.TheVariants as kinds
use Rattle.thorin_arguments.specs.Whole.{completed, is_of_llvm}
use Rattle.thorin_arguments.specs.Wrong.{is_wrong_line}

-- ---- kinds of words

-- an option without a value
abbrev pub flag : Text → Rule
flag name = record (new_rule name) { long = Some name; action = Some SetTrue }

-- an option with a value; with one as often as one likes; with one of some values
abbrev pub valued : Text → Rule
valued name =
    record (new_rule name) { long = Some name; value_names = 1; action = Some Set }

abbrev pub repeated : Text → Rule
repeated name = record (valued name) { action = Some Append }

abbrev pub chosen : Text → Bor (List (Bor Text)) → Rule
chosen name values = record (valued name) { parser = Some (parsers.Names values) }

-- a word that must be there at its place
abbrev pub place : Text → Rule
place name =
    record (new_rule name) { value_names = 1; action = Some Set; required = true }

-- words as often as one likes
abbrev pub places : Text → Rule
places name = record (new_rule name) {
  value_names = 1;
  range = Some (record { start_inclusive = 0; end_inclusive = usize_max });
  action = Some Append;
}

-- with a short name too
abbrev pub also : ℕ → Rule → Rule
also letter rule = record rule { short = Some letter }

-- ---- the commands

abbrev pub exec : Rule
exec = also 101 (repeated (codes "exec"))

abbrev pub output : Rule
output = also 111 (valued (codes "output"))

-- how objects are packed, and which
abbrev pub packing_words : Bor (List (Bor Text)) → List Rule
packing_words which =
    flag (codes "skip-missing") ∷ flag (codes "skip-nameless") ∷ flag (codes "partial")
    ∷ flag (codes "missing") ∷ repeated (codes "prefix-map") ∷ flag (codes "force")
    ∷ flag (codes "decompress")
    ∷ flag (codes "archives") ∷ flag (codes "allow-overlap") ∷ flag (codes "last-macros")
    ∷ flag (codes "no-macros") ∷ chosen (codes "warnings") which ∷ also 118 (flag (codes "verbose"))
    ∷ places (codes "input") ∷ []

abbrev pub pack_words : Bor (List (Bor Text)) → List Rule
pack_words which = output ∷ exec ∷ packing_words which

abbrev pub find_words : List Rule
find_words = place (codes "file") ∷ place (codes "kind") ∷ place (codes "id")
    ∷ valued (codes "string") ∷ valued (codes "section") ∷ flag (codes "decompress")
    ∷ flag (codes "json") ∷ []

abbrev pub list_words : List Rule
list_words = flag (codes "sizes") ∷ flag (codes "names") ∷ flag (codes "columns")
    ∷ flag (codes "decompress") ∷ flag (codes "json") ∷ place (codes "file") ∷ []

abbrev pub check_words : List Rule
check_words = place (codes "file") ∷ exec ∷ flag (codes "skip-nameless")
    ∷ flag (codes "decompress") ∷ flag (codes "json") ∷ []

abbrev pub command : Text → List Rule → Shape
command name words = record (new_shape name) { rules = words }

-- the program, which has a version and needs a command
abbrev pub program : Shape
program = record (new_shape (codes "thorin")) {
  is_leaf = false;
  has_version = true;
  subcommand_required = true;
}

unfoldable pub thorin : Bor (List (Bor Text)) → App
thorin which = record {
  top = program;
  subs = command (codes "pack") (pack_words which) ∷ command (codes "find") find_words
      ∷ command (codes "list") list_words ∷ command (codes "check") check_words ∷ [];
}

-- what a peer takes; LLVM's takes an option more, which changes nothing
abbrev pub peer_words : (of_llvm : Bool) → (which how : Bor (List (Bor Text))) → List Rule
peer_words of_llvm which how =
    (output ∷ exec ∷ flag (codes "verify-only") ∷ packing_words which)
    ++ (if of_llvm then chosen (codes "continue-on-cu-index-overflow") how ∷ [] else [])

-- a peer, which has a version; of options that are repeated the last counts
unfoldable pub peer : (name : Text) → (of_llvm : Bool) → (which how : Bor (List (Bor Text))) → App
peer name of_llvm which how = record {
  top = record (command name (peer_words of_llvm which how)) {
    has_version = true;
    args_override_self = true;
  };
  subs = [];
}

-- the kinds of warnings
abbrev pub AreKinds : Bor (List (Bor Text)) → Type 0
AreKinds which = texts which.now ≡ codes "each" ∷ codes "once" ∷ codes "none" ∷ []

-- what LLVM's may do past 2^32 bytes
abbrev pub AreManners : Bor (List (Bor Text)) → Type 0
AreManners how = texts how.now ≡ codes "continue" ∷ codes "soft-stop" ∷ []

abbrev pub IsThorin : App → Type 0
IsThorin app = (which : Bor (List (Bor Text))) × AreKinds which × (app ≡ thorin which)

abbrev pub IsPeer : (name : Text) → App → Type 0
IsPeer name app = (which : Bor (List (Bor Text))) × (how : Bor (List (Bor Text))) × AreKinds which
    × AreManners how × (app ≡ peer name (is_of_llvm name) which how)

-- the grammar of a line: that of the peer of a name, where it has one, or of `thorin`
abbrev pub IsLine : (peer : Option Text) → App → Type 0
IsLine (Some name) app = IsPeer name app
IsLine None app = IsThorin app

-- the names of its long options, with those that clap adds
abbrev pub long_names : App → List Text
long_names app = filter_map (λ rule. rule.long) (built app).top.rules

-- the words of a line as its grammar has them: a peer's may have long options that are cut short
abbrev pub read_words : (peer : Option Text) → App → List Text → List Text
read_words (Some name) app words = completed (is_of_llvm name) (long_names app) words
read_words None app words = words

-- ---- what words say

-- kinds of errors by which a text is shown that the words ask for
abbrev pub IsText : ErrorKind → Type 0
IsText kind = (kind ≡ kinds.DisplayHelp) ⊎ (kind ≡ kinds.DisplayVersion)

-- words that the grammar doesn't take, since they have an error of such a kind
abbrev pub HaveError : (peer : Option Text) → (ErrorKind → Type 0) → List Text → Type 0
HaveError peer IsSuch words = (app : App) × IsLine peer app × (kind : ErrorKind)
    × IsAmong kind (fault_of app (read_words peer app words)) × IsSuch kind

-- words that the grammar takes, with their matches: those of the line, and the command in it with
-- its own
pub record AreMatchesOf (peer : Option Text) (words : List Text) (rows : List Row)
    (command : Option (Text × List Row)) : Type 0 where
  pub app : App
  pub line : IsLine peer app
  pub taken : fault_of app (read_words peer app words) ≡ []
  pub rows_are : rows ≡ matches_of app (read_words peer app words)
  pub command_is : command ≡ subcommand_of app (read_words peer app words)

-- words that the grammar takes, and whose options go together, or don't
abbrev pub AreMatched : (peer : Option Text) → (wrong : Bool) → List Text → List Row
    → Option (Text × List Row) → Type 0
AreMatched peer wrong words rows command = AreMatchesOf peer words rows command
    × (is_wrong_line (is_some peer) rows command ≡ wrong)

-- words that ask for help or the version
abbrev pub AskForText : (peer : Option Text) → List Text → Type 0
AskForText peer words = HaveError peer IsText words

-- words that are refused: the grammar doesn't take them, or their options don't go together
abbrev pub AreRefused : (peer : Option Text) → List Text → Type 0
AreRefused peer words = HaveError peer (λ kind. ¬ IsText kind) words
    ⊎ ((rows : List Row) × (command : Option (Text × List Row))
    × AreMatched peer true words rows command)
