-- What is made of inputs before it is written, and what is told of that.
use Rattle.std.specs.Prelude.{◌≡◌, ℕ, List, ◌++◌, Bool, Option, map}
use Rattle.dwp_elf.specs.FileText.{Object as File}
use Rattle.dwp_table.specs.declared.object.DebugTypeSignature.{DebugTypeSignature}
use Rattle.thorin_join.specs.Builder.{State, differing_in}
use Rattle.thorin.specs.declared.packing.Input.{Input}
use Rattle.thorin_inputs.specs.declared.notes.Lack.{Lack}
use Rattle.thorin_output.specs.Warnings.{IsPrinted}
use Rattle.thorin_commands.specs.Opened.{Fills, TookInputs, added_in}
use Rattle.thorin_commands.specs.Packing.{IsPackageFor, IsPackedFrom}
use Rattle.thorin_commands.specs.Taken.{Manner, Offer}
use Rattle.thorin_commands.specs.Warned.{TellsInputs, TellsMacros, TellsNamed, TellsTaken}
use Rattle.thorin_commands.specs.Warned.{TellsTaking, names}
use Rattle.thorin_commands.specs.declared.packing.Packing.{Packing}

-- inputs were taken, what that told, and what each of them lacks
pub record TookTelling (verbose opens : Bool) (manner : Manner) (offer : Offer) (list : List Input)
    (old new : State) (before after : Option (List ℕ)) (lacks : List Lack) : Type 0 where
  pub took : TookInputs opens manner offer list old new
  pub told : IsPrinted before after (TellsTaking verbose list (added_in took) lacks)

-- what a new builder has once inputs were taken and what isn't there was left out, what that told,
-- and the lines of type units that differ
pub record FillsTelling (verbose warns partial named opens : Bool) (manner : Manner)
    (offer : Offer) (list : List Input) (old new : State) (before after : Option (List ℕ))
    (lines : List ℕ) : Type 0 where
  pub fills : Fills partial opens manner offer list old new
  pub told : IsPrinted before after
      (TellsTaken verbose warns partial list (added_in fills.took) fills.state)
  pub names_are : TellsNamed named (differing_in fills.state) lines

-- an object of inputs, what was told of them, the type units that differ, and their lines
pub record IsMade (verbose warns partial named opens : Bool) (manner : Manner) (offer : Offer)
    (list : List Input) (before after : Option (List ℕ)) (object : File)
    (differing : List DebugTypeSignature) (lines : List ℕ) : Type 0 where
  pub packed : IsPackedFrom partial opens manner offer list object
  pub told : IsPrinted before after
      (TellsTaken verbose warns partial list (added_in packed.took) packed.state)
  pub differ : map (λ s. s.0) differing ≡ differing_in packed.state
  pub names_are : TellsNamed named (differing_in packed.state) lines

-- the same of the inputs that were asked for
pub record IsMadeFor (Tells : List Input → (added : List ℕ) → State → (text : List ℕ) → Type 0)
    (offer : Offer) (packing : Packing) (before after : Option (List ℕ)) (object : File)
    (differing : List DebugTypeSignature) (lines : List ℕ) : Type 0 where
  pub is : IsPackageFor offer packing object
  pub told : IsPrinted before after (Tells is.list (added_in is.packed.took) is.packed.state)
  pub differ : map (λ s. s.0) differing ≡ differing_in is.packed.state
  pub names_are : TellsNamed (names packing.verbose packing.warnings)
      (differing_in is.packed.state) lines

-- the same, with the lines of sections of macros in front
pub record IsReady (offer : Offer) (packing : Packing) (before after : Option (List ℕ))
    (object : File) (differing : List DebugTypeSignature) (lines : List ℕ) : Type 0 where
  pub named : List ℕ
  pub made : IsMadeFor (TellsInputs offer packing) offer packing before after object differing
      named
  pub macros : List ℕ
  pub macros_are : TellsMacros packing.warns_of_macros macros
  pub lines_are : lines ≡ macros ++ named
