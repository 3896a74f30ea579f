-- What packing a list of inputs gives.
use Rattle.std.specs.Prelude.{◌≡◌, ℕ, List, [], map, Result, IfOk}
use Rattle.std.specs.declared.io.Error.{Error as IoError}
use Rattle.thorin.specs.declared.packing.Input.{Input}
use Rattle.thorin.specs.declared.packing.Packed.{Packed}
use Rattle.thorin_join.specs.Builder.{State, start, differing_in}
use Rattle.thorin_join.specs.Join.{JoinAll, IsPackageOf}
use Rattle.thorin_join.specs.Represents.{units_in}
use Rattle.thorin.specs.Run.{Ran, Writes}

-- the outcomes are those of a run from the start; its package has the units of the accepted inputs,
-- joined; what is written is the file of the state after it, a package of these units; and the type
-- units that differ are those of that state
pub record IsPacked (offer : List ℕ → Result (List ℕ) IoError
    → Type 0) (inputs : List Input) (packed : Packed) : Type 0 where
  pub state : State
  pub accepted : List (List ℕ)
  pub ran : Ran offer inputs start packed.outcomes.items state accepted
  pub joined : JoinAll accepted [] (units_in state)
  pub written : Writes (λ bytes. bytes.items) state packed.file
  pub package_of : IfOk packed.file (λ bytes. IsPackageOf (units_in state) bytes.items)
  pub differing : map (λ s. s.0) packed.differing.items ≡ differing_in state
