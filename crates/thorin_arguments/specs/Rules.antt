-- The words of a command line as this program lists them, in clap's terms.
use Rattle.std.specs.Prelude.{◌≡◌, ◌∷◌, Bool, List, [], codes, map}
use Rattle.std.specs.Borrow.{Bor}
use Rattle.clap.specs.Simple.{App, Shape}
use Rattle.clap.specs.Walk.{Rule, Text}
use Rattle.thorin_arguments.specs.Grammar as grammar
use Rattle.thorin_arguments.specs.declared.command.Word.{Word}
use Rattle.thorin_arguments.specs.declared.command.Word.TheVariants as words
use Rattle.thorin_arguments.specs.declared.command.Line.{Line}

abbrev pub rule_in : Word → Rule
rule_in words.Output = grammar.output
rule_in (words.Executables help) = grammar.exec
rule_in words.Verbose = grammar.also 118 (grammar.flag (codes "verbose"))
rule_in (words.Flag name help) = grammar.flag name.now
rule_in (words.Value name value help) = grammar.valued name.now
rule_in (words.Values name value help) = grammar.repeated name.now
rule_in (words.Choice name value help values) = grammar.chosen name.now values
rule_in words.Inputs = grammar.places (codes "input")
rule_in (words.Place name value help) = grammar.place name.now

-- the words of a peer
abbrev pub ArePeerWords : (of_llvm : Bool) → List Word → Type 0
ArePeerWords of_llvm list = (which : Bor (List (Bor Text))) × (how : Bor (List (Bor Text)))
    × grammar.AreKinds which × grammar.AreManners how
    × (map rule_in list ≡ grammar.peer_words of_llvm which how)

-- the names of the long options of each grammar of the peer of this name
abbrev pub AreLongNames : (peer : Text) → List Text → Type 0
AreLongNames peer names = (app : App) → grammar.IsPeer peer app → names ≡ grammar.long_names app

-- a command line of this name with these words
abbrev pub app_of_words : Text → List Word → App
app_of_words name words =
    record { top = grammar.command name (map rule_in words); subs = [] }

abbrev pub app_in : Line → App
app_in line = app_of_words line.name.now line.words.now

unfoldable pub shape_in : Line → Shape
shape_in line = (app_in line).top

-- the program's own line, and those of its commands
abbrev pub AreLines : List Line → Type 0
AreLines lines = (which : Bor (List (Bor Text))) × grammar.AreKinds which
    × (map shape_in lines ≡ grammar.command (codes "thorin") [] ∷ (grammar.thorin which).subs)
