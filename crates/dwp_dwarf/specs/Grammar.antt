-- A table of abbreviations as a list: declarations one after the other, each behind its code, up to
-- a code 0 or the end of the bytes (DWARF 5, 7.5.3).
use Rattle.std.specs.Prelude.{◌≡◌, ◌≢◌, ◌↔◌, ℕ, List, [], ◌∷◌, Option, Some, None, Result, Ok, Err}
use Rattle.std.specs.Prelude.{◌==◌, if◌then◌else◌}
use Rattle.std.specs.List.{AllByRecursion}
use Rattle.dwp_base.specs.Reading.{◌>>=◌}
use Rattle.dwp_bytes.specs.Input.{Input}
use Rattle.dwp_bytes.specs.declared.error.ReadError.{ReadError}
use Rattle.dwp_dwarf.specs.Abbreviations.{Declaration, declaration_at, declaration}
use Rattle.dwp_units.specs.AbbreviationCodes.{code_at}

-- the next declaration with its code, and what comes behind it; None at the end of the table
unfoldable pub next_at : Input → Result (Option ((ℕ × Declaration) × Input)) ReadError
next_at i = do
  code ← code_at i
  if code.0 == 0 then Ok None else (do
    d ← declaration_at code.1
    Ok (Some ((code.0, d.0), d.1)))

-- declarations that lie one after the other, and the rest of the table behind them
abbrev pub DeclarationsLie : Input → List (ℕ × Declaration) → Input → Type 0
DeclarationsLie i [] rest = rest ≡ i
DeclarationsLie i (d ∷ ds) rest =
    (next : Input) × (next_at i ≡ Ok (Some (d, next))) × DeclarationsLie next ds rest

-- the rest of a table behind declarations of other codes alone
pub record IsBehindOthers (code : ℕ) (i rest : Input) : Type 0 where
  pub others : List (ℕ × Declaration)
  pub lie : DeclarationsLie i others rest
  pub other : AllByRecursion (λ d. d.0 ≢ code) others

-- what a table declares for a code is the first declaration of the code
abbrev pub FoundIsFirst : Type 0
FoundIsFirst =
    (code : ℕ) (i : Input) (d : Declaration) → (declaration code i ≡ Ok (Some d)) ↔ ((rest : Input)
    × IsBehindOthers code i rest × ((next : Input) × (next_at rest ≡ Ok (Some ((code, d), next)))))

-- it declares nothing where all its declarations, up to its end, are of other codes
abbrev pub AbsentIsNowhere : Type 0
AbsentIsNowhere = (code : ℕ) (i : Input) → (declaration code i ≡ Ok None)
    ↔ ((rest : Input) × IsBehindOthers code i rest × (next_at rest ≡ Ok None))

-- it has an error where the first declaration that can't be read comes before one of the code
abbrev pub ErrorIsBefore : Type 0
ErrorIsBefore = (code : ℕ) (i : Input) (e : ReadError) → (declaration code i ≡ Err e)
    ↔ ((rest : Input) × IsBehindOthers code i rest × (next_at rest ≡ Err e))
