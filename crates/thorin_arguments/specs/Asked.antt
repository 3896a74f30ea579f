-- Which command the matches of a command line ask for, with which inputs and settings, and what
-- else the program does of words.
use Rattle.std.specs.Prelude.{◌≡◌, ℕ, Bool, true, false, ◌||◌, List, [], Option, Some, None, String}
use Rattle.std.specs.Prelude.{string_bytes, ◌⊎◌, ⊤, codes, is_some, map, option_map, unwrap_or}
use Rattle.std.specs.Borrow.{Bor}
use Rattle.std.specs.declared.alloc.Global.{Global}
use Rattle.clap.specs.Walk.{Row, Text, all_of, first_of}
use Rattle.thorin_arguments.specs.declared.asking.PackArguments.{PackArguments}
use Rattle.thorin_arguments.specs.declared.asking.FindArguments.{FindArguments}
use Rattle.thorin_arguments.specs.declared.asking.ListArguments.{ListArguments}
use Rattle.thorin_arguments.specs.declared.asking.CheckArguments.{CheckArguments}
use Rattle.thorin_arguments.specs.Flags.{is_set}
use Rattle.thorin_arguments.specs.Grammar.{AreMatched, AreRefused, AskForText}
use Rattle.thorin_arguments.specs.Peers.{peer_of}

-- what is called: a command with its inputs and settings; or a text is shown that the words ask
-- for, they are refused, or it is told that memory ran out
pub data Call : Type 0 where
  Packs : PackArguments → Call
  Finds : FindArguments → Call
  Lists : Bor Text → ListArguments → Call
  Checks : CheckArguments → Call
  Shows : Call
  Refuses : Call
  LacksMemory : Call

-- the value of a name, where one is given
abbrev pub IsValue : List Row → Text → Option (Bor Text) → Type 0
IsValue rows name value = option_map (λ s. s.now) value ≡ first_of name rows

-- the value of a name that must be given
abbrev pub IsWord : List Row → Text → Bor Text → Type 0
IsWord rows name word = word.now ≡ unwrap_or (first_of name rows) []

-- the values of a name, in order, where any are given
abbrev pub AreValues : List Row → Text → Option (Bor (List (Bor Text))) → Type 0
AreValues rows name values = option_map (λ s. map (λ v. v.now) s.now) values ≡ all_of name rows

-- the inputs and settings of `pack`; a peer decompresses without being told
pub record AsksPack (of_peer : Bool) (rows : List Row) (a : PackArguments) : Type 0 where
  pub output : IsValue rows (codes "output") a.output
  pub inputs : AreValues rows (codes "input") a.inputs
  pub executables : AreValues rows (codes "exec") a.executables
  pub skips_missing : a.skips_missing ≡ is_set rows (codes "skip-missing")
  pub skips_nameless : a.skips_nameless ≡ is_set rows (codes "skip-nameless")
  pub force : a.force ≡ is_set rows (codes "force")
  pub decompresses : a.decompresses ≡ (of_peer || is_set rows (codes "decompress"))
  pub opens_archives : a.opens_archives ≡ is_set rows (codes "archives")
  pub verifies_only : a.verifies_only ≡ is_set rows (codes "verify-only")
  pub verbose : a.verbose ≡ is_set rows (codes "verbose")
  pub warnings : IsValue rows (codes "warnings") a.warnings
  pub allows_overlap : a.allows_overlap ≡ is_set rows (codes "allow-overlap")
  pub prefix_maps : AreValues rows (codes "prefix-map") a.prefix_maps
  pub partial : a.partial ≡ is_set rows (codes "partial")
  pub lists_missing : a.lists_missing ≡ is_set rows (codes "missing")
  pub keeps_last_macros : a.keeps_last_macros ≡ is_set rows (codes "last-macros")
  pub drops_macros : a.drops_macros ≡ is_set rows (codes "no-macros")

pub record AsksFind (rows : List Row) (a : FindArguments) : Type 0 where
  pub file : IsWord rows (codes "file") a.file
  pub kind : IsWord rows (codes "kind") a.kind
  pub id : IsWord rows (codes "id") a.id
  pub string : IsValue rows (codes "string") a.string
  pub section : IsValue rows (codes "section") a.section
  pub decompresses : a.decompresses ≡ is_set rows (codes "decompress")
  pub json : a.json ≡ is_set rows (codes "json")

pub record AsksList (rows : List Row) (word : Bor Text) (a : ListArguments) : Type 0 where
  pub file : IsWord rows (codes "file") word
  pub sizes : a.sizes ≡ is_set rows (codes "sizes")
  pub names : a.names ≡ is_set rows (codes "names")
  pub columns : a.columns ≡ is_set rows (codes "columns")
  pub decompresses : a.decompresses ≡ is_set rows (codes "decompress")
  pub json : a.json ≡ is_set rows (codes "json")

pub record AsksCheck (rows : List Row) (a : CheckArguments) : Type 0 where
  pub file : IsWord rows (codes "file") a.file
  pub executables : map (λ v. v.now) a.executables.now ≡ unwrap_or (all_of (codes "exec") rows) []
  pub skips_nameless : a.skips_nameless ≡ is_set rows (codes "skip-nameless")
  pub decompresses : a.decompresses ≡ is_set rows (codes "decompress")
  pub json : a.json ≡ is_set rows (codes "json")

-- a name that no command has
pub record IsNoCommand (name : Text) : Type 0 where
  pub pack : ¬ (name ≡ codes "pack")
  pub find : ¬ (name ≡ codes "find")
  pub list : ¬ (name ≡ codes "list")
  pub check : ¬ (name ≡ codes "check")

-- the call that the name of a command asks for, with the matches behind it
abbrev pub AsksBy : Text → List Row → Call → Type 0
AsksBy name rows (Packs a) = (name ≡ codes "pack") × AsksPack false rows a
AsksBy name rows (Finds a) = (name ≡ codes "find") × AsksFind rows a
AsksBy name rows (Lists file a) = (name ≡ codes "list") × AsksList rows file a
AsksBy name rows (Checks a) = (name ≡ codes "check") × AsksCheck rows a
AsksBy name rows Refuses = IsNoCommand name
AsksBy name rows _ = ⊥

-- the call that a command's name asks for, where there is one
abbrev pub AsksIn : Option (Text × List Row) → Call → Type 0
AsksIn (Some command) call = AsksBy command.0 command.1 call
AsksIn None call = call ≡ Refuses

-- a peer is asked to pack, whatever stands in its line
abbrev pub AsksPeer : List Row → Call → Type 0
AsksPeer rows (Packs a) = AsksPack true rows a
AsksPeer rows _ = ⊥

-- the call that matches ask for: those of the line, and the command in it with its own
abbrev pub Asks : (of_peer : Bool) → List Row → Option (Text × List Row) → Call → Type 0
Asks true rows command call = AsksPeer rows call
Asks false rows command call = AsksIn command call

-- the status that is answered where no command is called: 2 where words are refused, 0 where a text
-- is shown, and 1 where that can't be printed, or memory ran out
abbrev pub IsStatusOf : Call → (status : ℕ) → Type 0
IsStatusOf Refuses status = (status ≡ 2) ⊎ (status ≡ 1)
IsStatusOf Shows status = (status ≡ 0) ⊎ (status ≡ 1)
IsStatusOf LacksMemory status = status ≡ 1
IsStatusOf _ status = ⊤

-- one call was made, of those that are asked for, and its status is the program's; `does` says what
-- a call does
abbrev pub Does : {S : Type 0} → (S → Call → ℕ → S → Type 0) → (Call → Type 0) → (old : S)
    → (status : ℕ) → (new : S) → Type 0
Does does asks old status new =
    (call : Call) × asks call × IsStatusOf call status × does old call status new

abbrev pub words_in : List (String Global) → List Text
words_in words = map string_bytes words

-- a call that words ask for: by their matches, as the grammar has them, whose options go together
abbrev pub IsAsked : (peer : Option Text) → List Text → Call → Type 0
IsAsked peer words call = (rows : List Row) × (command : Option (Text × List Row))
    × AreMatched peer false words rows command × Asks (is_some peer) rows command call

-- no command is called, and why: help is asked for or the version, the words are refused, or memory
-- ran out
abbrev pub IsTold : (peer : Option Text) → List Text → Call → Type 0
IsTold peer words Shows = AskForText peer words
IsTold peer words Refuses = AreRefused peer words
IsTold peer words LacksMemory = ⊤
IsTold peer words _ = ⊥

-- what is done with a line, of a peer of this name or of `thorin`
abbrev pub IsCallBy : (peer : Option Text) → List Text → Call → Type 0
IsCallBy peer words call = IsTold peer words call ⊎ IsAsked peer words call

-- the same, by the program's name
abbrev pub IsCallOf : List Text → Call → Type 0
IsCallOf words call = IsCallBy (peer_of words) words call
