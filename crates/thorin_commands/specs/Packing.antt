-- What the program packs, and what comes of it.
use Rattle.std.specs.Prelude.{◌≡◌, ℕ, List, [], ◌∷◌, ◌++◌, map, codes, Option, Some, None, Result}
use Rattle.std.specs.Prelude.{Ok, ◌⊎◌, ◌≢◌, All, Bool, true, take}
use Rattle.std.specs.Borrow.{Bor}
use Rattle.std.specs.Path.{path_bytes}
use Rattle.std.specs.declared.io.Error.{Error as IoError}
use Rattle.dwp_elf.specs.FileText.{Object as File, file_text}
use Rattle.thorin_errors.specs.declared.error.MissingReferencedObjectBehaviour.{MissingReferencedObjectBehaviour}
use Rattle.thorin_executable.specs.declared.listing.NamelessUnits.{NamelessUnits}
use Rattle.thorin_executable.specs.declared.listing.NamelessUnits.TheVariants.{Refused, PassedOver}
use Rattle.thorin_join.specs.Builder.{State, start, finish_test, IsFinishedState}
use Rattle.thorin_join.specs.Join.{JoinAll, IsPackageOf}
use Rattle.thorin_join.specs.Represents.{units_in}
use Rattle.thorin.specs.declared.packing.Input.{Input}
use Rattle.thorin.specs.declared.packing.Input.TheVariants as inputs
use Rattle.thorin_print.specs.declared.output.Failure.{Failure}
use Rattle.thorin_inputs.specs.Given.{StandsAt}
use Rattle.thorin_inputs.specs.declared.growth.Growth.{Growth}
use Rattle.thorin_inputs.specs.Prefixes.{mapped}
use Rattle.thorin_output.specs.Files.{IsOfWriting}
use Rattle.thorin_output.specs.Reads.{Identity}
use Rattle.thorin_commands.specs.Opened.{TookInputs, accepted_in, left}
use Rattle.thorin_commands.specs.Taken.{Manner, Offer, OffersTaken, Declines}
use Rattle.thorin_commands.specs.declared.packing.Packing.{Packing}

-- ---- what a command asks for

-- what is done with an executable: where an object of it is missing, and where a unit of it names
-- no object
abbrev pub Handling : Type 0
Handling = MissingReferencedObjectBehaviour × NamelessUnits

-- the path of an input, and for an executable what is done with it
abbrev pub asked : Input → Option (List ℕ × Option Handling)
asked (inputs.Object path) = Some (path_bytes path, None)
asked (inputs.Bytes bytes) = None
asked (inputs.Executable path missing) = Some (path_bytes path, Some (missing, Refused))
asked (inputs.ExecutableSkippingNameless path missing) =
    Some (path_bytes path, Some (missing, PassedOver))

-- what is asked for of the path of an object, and of that of an executable
abbrev pub object_asked : Bor (List ℕ) → Option (List ℕ × Option Handling)
object_asked path = Some (path.now, None)

abbrev pub executable_asked : Handling → Bor (List ℕ) → Option (List ℕ × Option Handling)
executable_asked handling path = Some (path.now, Some handling)

-- the paths of a list, none where there is no list
abbrev pub paths_in : Option (Bor (List (Bor (List ℕ)))) → List (Bor (List ℕ))
paths_in None = []
paths_in (Some list) = list.now

-- the objects in order, and behind them the executables
abbrev pub asks : Packing → List (Option (List ℕ × Option Handling))
asks packing = map object_asked (paths_in packing.inputs)
    ++ map (executable_asked (packing.missing, packing.nameless)) (paths_in packing.executables)

-- OUT: the name that was given, else that of the one executable with `.dwp` behind it
abbrev pub name_beside : List (Bor (List ℕ)) → Option (List ℕ)
name_beside [] = None
name_beside (executable ∷ []) = Some (executable.now ++ codes ".dwp")
name_beside (executable ∷ another ∷ rest) = None

abbrev pub given_or_beside : Option (Bor (List ℕ)) → List (Bor (List ℕ)) → Option (List ℕ)
given_or_beside (Some name) executables = Some name.now
given_or_beside None executables = name_beside executables

abbrev pub out_of : Packing → Option (List ℕ)
out_of packing = given_or_beside packing.output (paths_in packing.executables)

-- ---- where it is read

-- one of some paths
abbrev pub IsAmong : List (Bor (List ℕ)) → List ℕ → Type 0
IsAmong paths path = (place : ℕ) × StandsAt paths path place

-- a path is read with its prefix replaced, by words FROM=TO; one that the command line names itself
-- is also read as it is, and any where there are no such words
abbrev pub through : (words objects executables : List (Bor (List ℕ))) → Offer → Offer
through [] objects executables offer = offer
through (word ∷ words) objects executables offer = λ path answer.
    offer (mapped (word ∷ words) path) answer
    ⊎ ((IsAmong objects path ⊎ IsAmong executables path) × offer path answer)

-- how a command takes inputs
abbrev pub manner_of : Packing → Manner
manner_of packing = record {
  decompresses = packing.decompresses;
  allows_overlap = packing.allows_overlap;
  macros = packing.macros;
}

-- where a path is read that a command asks for, or that an executable names
abbrev pub read_through : Packing → Offer → Offer
read_through packing offer = through (paths_in packing.prefix_maps) (paths_in packing.inputs)
    (paths_in packing.executables) offer

-- what is taken for the file there: decompressed where that is asked for, and with the macros that
-- are kept
abbrev pub reads : Packing → Offer → Offer
reads packing offer = OffersTaken (manner_of packing) (read_through packing offer)

-- and why it is declined
abbrev pub declines : Packing → Offer → (own : Bool) → (path : List ℕ) → Growth → Type 0
declines packing offer = Declines (manner_of packing) (read_through packing offer)

-- ---- where it is written

-- a name isn't that of the file at a path: no file has it, or another one
abbrev pub AreApart : (known : List ℕ → Identity → Type 0) → (name path : List ℕ) → Type 0
AreApart known name path = known name None
    ⊎ ((own : Identity) × (other : Identity) × known name own × known path other × (own ≢ other))

-- nor that of a file at one of these paths
abbrev pub AllApart : (known : List ℕ → Identity → Type 0) → (name : List ℕ)
    → (paths : List (Bor (List ℕ))) → Type 0
AllApart known name paths = All (λ path. AreApart known name path.now) paths

-- OUT is none of the inputs that a command names
pub record IsNoInput (known : List ℕ → Identity → Type 0) (packing : Packing) : Type 0 where
  pub name : List ℕ
  pub named : out_of packing ≡ Some name
  pub objects : AllApart known name (paths_in packing.inputs)
  pub executables : AllApart known name (paths_in packing.executables)

-- ---- what is made of that

-- all inputs were taken; the state after that has the units of the bytes that were read, joined;
-- the object is finished from it, and its file is a package of these units
pub record IsPackedFrom (partial opens : Bool) (manner : Manner) (offer : Offer)
    (list : List Input) (object : File) : Type 0 where
  pub state : State
  pub took : TookInputs opens manner offer list start state
  pub joined : JoinAll (accepted_in took) [] (units_in state)
  pub tested : finish_test (left partial state) ≡ Ok tt
  pub finished : IsFinishedState (left partial state) object
  pub package_of : IsPackageOf (units_in state) (file_text object)

-- just the inputs that were asked for; where an empty package may come of it, behind them the first
-- executable as an object
abbrev pub AreAsked : Packing → List Input → Type 0
AreAsked packing list = (map asked list ≡ asks packing)
    ⊎ ((packing.lets_empty ≡ true) × (map asked list
    ≡ asks packing ++ map object_asked (take 1 (paths_in packing.executables))))

-- the same for just the inputs that were asked for
pub record IsPackageFor (offer : List ℕ → Result (List ℕ) IoError
    → Type 0) (packing : Packing) (object : File) : Type 0 where
  pub list : List Input
  pub are : AreAsked packing list
  pub packed : IsPackedFrom packing.partial packing.opens_archives (manner_of packing) offer list
      object

-- the file of such a package was put under the name of OUT
pub record Packs (offer : List ℕ → Result (List ℕ) IoError
    → Type 0) (packing : Packing) (Puts : (name text : List ℕ) → Type 0) : Type 0 where
  pub object : File
  pub is : IsPackageFor offer packing object
  pub name : List ℕ
  pub named : out_of packing ≡ Some name
  pub put : Puts name (file_text object)

-- a step failed: nothing was written yet, or the package was begun
unfoldable pub Fails : Failure → (nothing begun : Type 0) → Type 0
Fails failure nothing begun = nothing ⊎ (IsOfWriting failure × begun)
