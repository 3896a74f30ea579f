-- What came of inputs, for which members of archives may stand.
use Rattle.std.specs.Prelude.{◌≡◌, ℕ, ◌-◌, List, [], ◌∷◌, ◌++◌, Bool, true, false, map, length, Ok}
use Rattle.dwp_archive.specs.Entries.{Member}
use Rattle.dwp_archive.specs.Members.{members_of}
use Rattle.thorin_join.specs.Builder.{State}
use Rattle.thorin_join.specs.Represents.{units_in}
use Rattle.thorin_builder.specs.Missing.{without_targets}
use Rattle.thorin_builder.specs.Taking.{Outcome}
use Rattle.thorin.specs.declared.packing.Input.{Input}
use Rattle.thorin.specs.Run.{Ran}
use Rattle.thorin_commands.specs.Archives.{AreTakenFor, StandsFor, split_contents}
use Rattle.thorin_commands.specs.Taken.{Manner, Offer}

-- each of these was taken, in order, and none was refused; and the bytes that were read of them
abbrev pub AreAllAccepted : Offer → List Input → (old new : State) → List (List ℕ) → Type 0
AreAllAccepted offer list old new accepted =
    Ran offer list old (map {B = Outcome} (λ input. Ok tt) list) new accepted

-- what an input stands for was taken, and none of it refused
pub record TookAll (opens : Bool) (manner : Manner) (offer : Offer) (input : Input)
    (old new : State)
    : Type 0 where
  pub list : List Input
  pub stands : StandsFor opens manner offer input list
  pub accepted : List (List ℕ)
  pub ran : AreAllAccepted offer list old new accepted

-- the same of inputs, one after the other
pub data TookInputs (opens : Bool) (manner : Manner) (offer : Offer)
    : List Input → State → State → Type 0 where
  TookNone : {state : State} → TookInputs opens manner offer [] state state
  TookNext : {input : Input} {rest : List Input} {old middle new : State}
      → TookAll opens manner offer input old middle
      → TookInputs opens manner offer rest middle new
      → TookInputs opens manner offer (input ∷ rest) old new

-- the bytes that were read of them, in order
abbrev pub accepted_in : {opens : Bool} {manner : Manner} {offer : Offer} {list : List Input}
    {old new : State} → TookInputs opens manner offer list old new → List (List ℕ)
accepted_in TookNone = []
accepted_in (TookNext one rest) = one.accepted ++ accepted_in rest

-- how many units a package has
abbrev pub unit_count : State → ℕ
unit_count state = length (units_in state)

-- how many units each of them added
abbrev pub added_in : {opens : Bool} {manner : Manner} {offer : Offer} {list : List Input}
    {old new : State} → TookInputs opens manner offer list old new → List ℕ
added_in TookNone = []
added_in (TookNext {old = old} {middle = middle} one rest) =
    (unit_count middle - unit_count old) ∷ added_in rest

-- what is finished after the inputs: where missing units are left out, the package without a list
-- of units that executables refer to
abbrev pub left : Bool → State → State
left true state = without_targets state
left false state = state

-- what a builder has once the inputs were taken, and what isn't there was left out
pub record Fills (partial opens : Bool) (manner : Manner) (offer : Offer) (list : List Input)
    (old new : State) : Type 0 where
  pub state : State
  pub took : TookInputs opens manner offer list old state
  pub rest : new ≡ left partial state

-- what is taken for contents was taken, in order
pub record TookEach (manner : Manner) (offer : Offer) (contents : List (List ℕ))
    (old new : State) : Type 0 where
  pub list : List Input
  pub taken : AreTakenFor manner contents list
  pub accepted : List (List ℕ)
  pub ran : AreAllAccepted offer list old new accepted

-- the members of an archive's file that have split units were taken
pub record TookMembers (manner : Manner) (offer : Offer) (file : List ℕ) (old new : State)
    : Type 0 where
  pub members : List Member
  pub are : members_of file ≡ Ok members
  pub each : TookEach manner offer (split_contents members) old new
