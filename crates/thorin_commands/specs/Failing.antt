-- Why `pack` fails.
use Rattle.std.specs.Prelude.{◌≡◌, ◌⊎◌, ℕ, List, ◌∷◌, ◌++◌, IsSome, Option, Some, None, false}
use Rattle.std.specs.Borrow.{Bor}
use Rattle.thorin_print.specs.declared.output.Failure.{Failure}
use Rattle.thorin_print.specs.declared.output.Failure.TheVariants as failures
use Rattle.thorin_errors.specs.declared.error.Error.TheVariants.{NoOutputObjectCreated}
use Rattle.thorin_output.specs.Files.{Begun, IsCutShort, IsUnwritten}
use Rattle.thorin_output.specs.Reads.{Identity}
use Rattle.thorin_commands.specs.Cause.{IsCauseFor, Unfinished}
use Rattle.thorin_commands.specs.Packing.{Packs, declines, out_of, paths_in, reads}
use Rattle.thorin_commands.specs.Taken.{Offer}
use Rattle.thorin_commands.specs.declared.packing.Packing.{Packing}

-- one of these paths leads to the file of a name, by what both are known by
pub record LeadTo (known : List ℕ → Identity → Type 0) (name : List ℕ)
    (paths : List (Bor (List ℕ))) : Type 0 where
  pub own : Identity
  pub is_there : IsSome own
  pub named : known name own
  pub front : List (Bor (List ℕ))
  pub path : Bor (List ℕ)
  pub rest : List (Bor (List ℕ))
  pub list_is : paths ≡ front ++ path ∷ rest
  pub same : known path.now own

-- OUT is an input that a command names
pub record IsInput (known : List ℕ → Identity → Type 0) (packing : Packing) : Type 0 where
  pub name : List ℕ
  pub named : out_of packing ≡ Some name
  pub leads : LeadTo known name (paths_in packing.inputs)
      ⊎ LeadTo known name (paths_in packing.executables)

-- there is no name; OUT is an input, which isn't allowed; nothing is split, and the executable
-- can't be read a second time; OUT wasn't written to its end; the stream didn't take all, or a line
-- wasn't taken; or memory ran out
abbrev pub IsWhy : (known : List ℕ → Identity → Type 0) → Packing
    → (unsplit unwritten unprinted : Type 0) → Failure → Type 0
IsWhy known packing unsplit unwritten unprinted failures.BadCommand = out_of packing ≡ None
IsWhy known packing unsplit unwritten unprinted failures.Overwrites =
    (packing.force ≡ false) × IsInput known packing
IsWhy known packing unsplit unwritten unprinted failures.Input = unsplit
IsWhy known packing unsplit unwritten unprinted failures.Output = unwritten
IsWhy known packing unsplit unwritten unprinted failures.Line = unprinted
IsWhy known packing unsplit unwritten unprinted failures.Memory = Unit {0}
IsWhy known packing unsplit unwritten unprinted _ = ⊥

-- the same of what is read and written: the files, and the stream, before and after; `failed` where
-- a line wasn't taken
abbrev pub FailsPacking : {F O : Type 0} → (offer : F → Offer)
    → (known : F → List ℕ → Identity → Type 0) → (begun : F → Option (List Begun))
    → (contents : O → Option (List ℕ)) → Packing → (files files' : F) → (out out' : O)
    → (failed : Type 0) → Failure → Type 0
FailsPacking offer known begun contents packing files files' out out' failed failure =
    IsWhy (known files) packing
    (IsCauseFor (reads packing (offer files)) (declines packing (offer files)) packing
    (Unfinished NoOutputObjectCreated))
    (Packs (reads packing (offer files)) packing
    (λ name text. IsUnwritten begun files files' out out' name))
    (Packs (reads packing (offer files)) packing (IsCutShort contents files files' out out')
    ⊎ failed) failure
