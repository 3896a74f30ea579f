-- What `pack` tells on standard error where it makes a package.
use Rattle.std.specs.Prelude.{◌≡◌, ◌⊎◌, ℕ, List, [], ◌∷◌, ◌++◌, Bool, true, false, codes}
use Rattle.std.specs.Prelude.{filter, map, Option, Some, None, Err}
use Rattle.std.specs.Path.{path_bytes}
use Rattle.dwp_table.specs.Objects.{identifier_of}
use Rattle.dwp_table.specs.declared.object.DebugTypeSignature.{DebugTypeSignature}
use Rattle.dwp_table.specs.declared.object.DwarfObject.{DwarfObject}
use Rattle.thorin_errors.specs.Errors.{NoOutputObjectCreated}
use Rattle.thorin_errors.specs.Text.{hex8}
use Rattle.thorin_join.specs.Builder.{State, differing_in, finish_test, is_missing, names_in}
use Rattle.thorin_join.specs.Builder.{start}
use Rattle.thorin.specs.declared.packing.Input.{Input}
use Rattle.thorin.specs.declared.packing.Input.TheVariants as inputs
use Rattle.thorin_print.specs.Lines.{line_end}
use Rattle.thorin_print.specs.Shown.{shown}
use Rattle.thorin_print.specs.Told.{taken_line}
use Rattle.thorin_inputs.specs.declared.notes.Lack.{Lack}
use Rattle.thorin_inputs.specs.declared.notes.Lack.TheVariants.{Types}
use Rattle.thorin_output.specs.Warnings.{AreLines, IsPrinted}
use Rattle.thorin_output.specs.declared.warnings.Warnings.{Warnings}
use Rattle.thorin_output.specs.declared.warnings.Warnings.TheVariants.{Each, Once, Never}
use Rattle.thorin_commands.specs.Opened.{TookInputs, added_in, left, unit_count}
use Rattle.thorin_commands.specs.Packing.{Packs, asked, asks, manner_of}
use Rattle.thorin_commands.specs.Taken.{Manner, Offer}
use Rattle.thorin_commands.specs.declared.packing.Packing.{Packing}

-- a text for each of a list, by what stands beside it in another
abbrev pub InTurn : {A B : Type 0} → (A → B → List ℕ → Type 0) → List A → List B → (text : List ℕ)
    → Type 0
InTurn Tells [] [] text = text ≡ []
InTurn Tells (one ∷ list) (its ∷ rest) text = (line : List ℕ) × (more : List ℕ)
    × Tells one its line × InTurn Tells list rest more × (text ≡ line ++ more)
InTurn Tells list rest text = ⊥

-- a text that tells of each of a list, one behind the other, and has nothing else
abbrev pub InOrder : {A : Type 0} → (A → List ℕ → Type 0) → List A → (text : List ℕ) → Type 0
InOrder Tells [] text = text ≡ []
InOrder Tells (one ∷ list) text = (line : List ℕ) × (more : List ℕ) × Tells one line
    × InOrder Tells list more × (text ≡ line ++ more)

-- ---- inputs that were taken

-- the path of an input
abbrev pub path_of : Input → Option (List ℕ)
path_of (inputs.Object path) = Some (path_bytes path)
path_of (inputs.Bytes bytes) = None
path_of (inputs.Executable path missing) = Some (path_bytes path)
path_of (inputs.ExecutableSkippingNameless path missing) = Some (path_bytes path)

-- with `verbose` a line tells how many units an input added; of how many it has isn't said
abbrev pub TellsAdded : (verbose : Bool) → (path : Option (List ℕ)) → (added : ℕ) → (text : List ℕ)
    → Type 0
TellsAdded true (Some path) added text = (all : Option ℕ) × (text ≡ taken_line path added all)
TellsAdded verbose path added text = text ≡ []

-- `warning: a.o: no split units`, and why
abbrev pub unsplit_line : (path why : List ℕ) → List ℕ
unsplit_line path why =
    codes "warning: " ++ (shown path ++ (codes ": no split units" ++ (why ++ line_end)))

-- such a line, where there may be one, or none
abbrev pub TellsUnsplit : (may : Type 0) → (path : Option (List ℕ)) → (text : List ℕ) → Type 0
TellsUnsplit may path text = (text ≡ []) ⊎ (may × (name : List ℕ) × (why : List ℕ)
    × (path ≡ Some name) × (text ≡ unsplit_line name why))

-- where that is asked for, of inputs that added none alone, or where the package has none
abbrev pub TellUnsplit : (warns : Bool) → (total : ℕ) → List Input → (added : List ℕ)
    → (text : List ℕ) → Type 0
TellUnsplit true total list added text =
    InTurn (λ input own. TellsUnsplit ((total ≡ 0) ⊎ (own ≡ 0)) (path_of input)) list added text
TellUnsplit false total list added text = text ≡ []

-- the same by what they lack
abbrev pub TellUnsplitBy : (warns : Bool) → (none : Type 0) → List Input → List Lack
    → (text : List ℕ) → Type 0
TellUnsplitBy true none list lacks text =
    InTurn (λ input lack. TellsUnsplit (none ⊎ (lack ≡ Types)) (path_of input)) list lacks text
TellUnsplitBy false none list lacks text = text ≡ []

-- an input that has type units alone added none
abbrev pub AreLacks : (added : List ℕ) → List Lack → Type 0
AreLacks [] [] = Unit {0}
AreLacks (own ∷ added) (lack ∷ lacks) = (lack ≡ Types → own ≡ 0) × AreLacks added lacks
AreLacks added lacks = ⊥

-- what is told while inputs are taken that added as many units each, and what each of them lacks
pub record TellsTaking (verbose : Bool) (list : List Input) (added : List ℕ) (lacks : List Lack)
    (text : List ℕ) : Type 0 where
  pub lines : InTurn (λ input own. TellsAdded verbose (path_of input) own) list added text
  pub lacking : AreLacks added lacks

-- ---- units that aren't there

-- a line of a unit: words, its identifier, words, and more
abbrev pub unit_line : (before : List ℕ) → (id : ℕ) → (after more : List ℕ) → List ℕ
unit_line before id after more = before ++ (hex8 id ++ (after ++ (more ++ line_end)))

-- `warning: unit 0x0000000a: `, and why
abbrev pub left_line : DwarfObject → (reason : List ℕ) → List ℕ
left_line unit reason = unit_line (codes "warning: unit 0x") (identifier_of unit)
    (codes ": ") reason

abbrev pub IsLeftLine : DwarfObject → (text : List ℕ) → Type 0
IsLeftLine unit text = (reason : List ℕ) × (text ≡ left_line unit reason)

-- the units that executables refer to and that a package lacks
abbrev pub missing_in : State → List DwarfObject
missing_in state = filter (is_missing (names_in state.begun)) state.targets

-- with `partial` each of them is told, in order
abbrev pub TellsLeft : (partial : Bool) → State → (text : List ℕ) → Type 0
TellsLeft true state text = InOrder IsLeftLine (missing_in state) text
TellsLeft false state text = text ≡ []

-- ---- before the package is written

-- of inputs that were taken and added as many units each, and of the package's state then: lines of
-- these, warnings of those without split units, and warnings of units that aren't there
pub record TellsTaken (verbose warns partial : Bool) (list : List Input) (added : List ℕ)
    (state : State) (text : List ℕ) : Type 0 where
  pub taken : List ℕ
  pub taken_are : InTurn (λ input own. TellsAdded verbose (path_of input) own) list added taken
  pub unsplit : List ℕ
  pub unsplit_are : TellUnsplit warns (unit_count state) list added unsplit
  pub missing : List ℕ
  pub missing_are : TellsLeft partial state missing
  pub text_is : text ≡ taken ++ (unsplit ++ missing)

-- of inputs that were taken, and none of which began a package: nothing is split
pub record TellsUnsplitRun (verbose warns partial opens : Bool) (manner : Manner) (offer : Offer)
    (list : List Input) (text : List ℕ) : Type 0 where
  pub state : State
  pub took : TookInputs opens manner offer list start state
  pub unbegun : finish_test (left partial state) ≡ Err NoOutputObjectCreated
  pub tells : TellsTaken verbose warns partial list (added_in took) state text

-- where that is so of the inputs that were asked for, their lines stand before those of a second
-- run, which tells only of units that aren't there
pub record TellsTwice (offer : Offer) (packing : Packing) (list : List Input) (added : List ℕ)
    (state : State) (text : List ℕ) : Type 0 where
  pub lets : packing.lets_empty ≡ true
  pub inputs : List Input
  pub are : map asked inputs ≡ asks packing
  pub before : List ℕ
  pub before_are : TellsUnsplitRun packing.verbose true packing.partial packing.opens_archives
      (manner_of packing) offer inputs before
  pub behind : List ℕ
  pub behind_are : TellsTaken false false packing.partial list added state behind
  pub text_is : text ≡ before ++ behind

-- of just the inputs that were asked for; or of a second run
abbrev pub TellsInputs : Offer → Packing → List Input → (added : List ℕ) → State
    → (text : List ℕ) → Type 0
TellsInputs offer packing list added state text =
    ((map asked list ≡ asks packing)
    × TellsTaken packing.verbose true packing.partial list added state text)
    ⊎ TellsTwice offer packing list added state text

-- ---- behind the package

-- warnings of an object's sections of macros, where these are asked for; which they are isn't said
abbrev pub TellsMacros : (warns : Bool) → (text : List ℕ) → Type 0
TellsMacros true text = Unit {0}
TellsMacros false text = text ≡ []

-- whether type units that differ are told of by name
abbrev pub names : (verbose : Bool) → Warnings → Bool
names verbose Each = verbose
names verbose Once = false
names verbose Never = false

-- `warning: type unit 0x0000000a differs from the one kept`, and what is known of it
abbrev pub named_line : (id : ℕ) → (more : List ℕ) → List ℕ
named_line id more =
    unit_line (codes "warning: type unit 0x") id (codes " differs from the one kept") more

abbrev pub IsNamedLine : (id : ℕ) → (text : List ℕ) → Type 0
IsNamedLine id text = (more : List ℕ) × (text ≡ named_line id more)

abbrev pub TellsNamed : (names : Bool) → List ℕ → (text : List ℕ) → Type 0
TellsNamed true differing text = InOrder IsNamedLine differing text
TellsNamed false differing text = text ≡ []

-- the warnings that are printed beside those
abbrev pub others : (names : Bool) → Warnings → Warnings
others true warnings = Never
others false warnings = warnings

-- of just the type units that differ from the ones kept, as the settings ask for
pub record TellsDiffering (verbose : Bool) (warnings : Warnings) (state : State) (text : List ℕ)
    : Type 0 where
  pub named : List ℕ
  pub named_are : TellsNamed (names verbose warnings) (differing_in state) named
  pub differing : List DebugTypeSignature
  pub differ : map (λ s. s.0) differing ≡ differing_in state
  pub lines : List ℕ
  pub lines_are : AreLines (others (names verbose warnings) warnings) differing lines
  pub text_is : text ≡ named ++ lines

-- all that is told
pub record TellsPacking (offer : Offer) (packing : Packing) (list : List Input) (added : List ℕ)
    (state : State) (text : List ℕ) : Type 0 where
  pub inputs : List ℕ
  pub inputs_are : TellsInputs offer packing list added state inputs
  pub macros : List ℕ
  pub macros_are : TellsMacros packing.warns_of_macros macros
  pub differing : List ℕ
  pub differing_are : TellsDiffering packing.verbose packing.warnings state differing
  pub text_is : text ≡ inputs ++ (macros ++ differing)

-- a package was put under the name of OUT, and of the run that it is of just that was told: where
-- the bytes of what lines are printed to are known, these are all that was added
pub record PacksTelling (offer : Offer) (packing : Packing) (Puts : (name text : List ℕ) → Type 0)
    (old new : Option (List ℕ)) : Type 0 where
  pub packs : Packs offer packing Puts
  pub told : IsPrinted old new (TellsPacking offer packing packs.is.list
      (added_in packs.is.packed.took) packs.is.packed.state)
