-- Faults that are told one after the other, and how many these are.
use Rattle.std.specs.Prelude.{◌≡◌, ℕ, ◌+◌, ◌-◌, ◌^◌, min, List, [], ◌∷◌, ◌++◌, length, Option, Ok}
use Rattle.std.specs.Prelude.{Err, string_bytes}
use Rattle.std.specs.List.{flat_map}
use Rattle.std.specs.Io.KnownBytes.{Appends}
use Rattle.thorin_print.specs.declared.form.Form.{Form}
use Rattle.thorin_check.specs.Rendering.{FaultValue, fault_text}
use Rattle.thorin_check.specs.declared.faults.Faults.{Faults}
use Rattle.thorin_print.specs.Answers.{Outcome, Grows, IsOfPrinting}
use Rattle.thorin_print.specs.declared.output.Failure.{Failure}

-- how many faults there are, as far as 64 bits go
abbrev pub fault_count : List FaultValue → ℕ
fault_count faults = min (length faults) (2 ^ 64 - 1)

-- a number of faults, and those behind them, as far as 64 bits go
abbrev pub counted_on : ℕ → List FaultValue → ℕ
counted_on n [] = n
counted_on n (fault ∷ faults) = counted_on (min (n + 1) (2 ^ 64 - 1)) faults

-- how far the telling of faults has come: how they are printed, what went to a writer, where its
-- bytes are known, what waits to go there, and how many faults were told
pub record Progress : Type 0 where
  pub form : Form
  pub written : Option (List ℕ)
  pub waiting : List ℕ
  pub count : ℕ

abbrev pub so_far : Option (List ℕ) → Faults → Progress
so_far written faults = record {
  form = faults.form;
  written = written;
  waiting = string_bytes faults.waiting;
  count = faults.count;
}

-- faults of which something holds were told: as they are printed they went to a writer, or wait
-- behind what waited before; and each was counted
pub record Told (P : List FaultValue → Type 0) (old new : Progress) : Type 0 where
  pub faults : List FaultValue
  pub are : P faults
  pub handed : List ℕ
  pub added : Appends old.written new.written handed
  pub split : old.waiting ++ flat_map (fault_text old.form) faults ≡ handed ++ new.waiting
  pub counted : new.count ≡ counted_on old.count faults
  pub formed : new.form ≡ old.form

-- the same; or it stopped by a failure of some kind, and something was printed or nothing
abbrev pub TellsOr : (Failure → Type 0) → (List FaultValue → Type 0) → (old new : Progress)
    → Outcome → Type 0
TellsOr Stops P old new (Ok done) = Told P old new
TellsOr Stops P old new (Err failure) = Stops failure × Grows old.written new.written

abbrev pub Tells : (List FaultValue → Type 0) → (old new : Progress) → Outcome
    → Type 0
Tells = TellsOr IsOfPrinting

-- these faults
abbrev pub Is : List FaultValue → List FaultValue → Type 0
Is told faults = faults ≡ told

-- none
abbrev pub IsNone : List FaultValue → Type 0
IsNone faults = faults ≡ []

-- one
abbrev pub IsFault : FaultValue → List FaultValue → Type 0
IsFault fault faults = faults ≡ fault ∷ []

-- faults of one kind, and behind them those of another
pub record InTurn (P Q : List FaultValue → Type 0) (faults : List FaultValue) : Type 0 where
  pub first : List FaultValue
  pub rest : List FaultValue
  pub is_first : P first
  pub is_rest : Q rest
  pub all : faults ≡ first ++ rest

-- some faults for each, in order
abbrev pub ForEach : {X : Type 0} → (X → List FaultValue → Type 0) → List X → List FaultValue
    → Type 0
ForEach P [] faults = IsNone faults
ForEach P (x ∷ xs) faults = InTurn (P x) (ForEach P xs) faults
