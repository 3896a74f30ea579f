-- What an object adds that adds no unit, however often it is taken.
use Rattle.std.specs.Prelude.{◌≡◌, ℕ, true, List, [], ◌∷◌, ◌++◌, map, take, length, Option, Some}
use Rattle.std.specs.Prelude.{None, Result, Ok, String, string_bytes, string_eq, ◌⊎◌}
use Rattle.std.specs.Global.{Global}
use Rattle.std.specs.declared.io.Error.{Error as IoError}
use Rattle.indexmap.specs.IndexMap.{insert_entry}
use Rattle.dwp_bytes.specs.declared.encoding.Encoding.{Encoding}
use Rattle.dwp_table.specs.declared.object.DwarfObject.{DwarfObject}
use Rattle.thorin_input.specs.Encodings.{own_encoding}
use Rattle.dwp_elf.specs.Growing.{Contents}
use Rattle.thorin_input.specs.Parts.{with_parts}
use Rattle.thorin_input.specs.Indexes.{Source}
use Rattle.thorin_input.specs.NewUnits.{new_units}
use Rattle.thorin_input.specs.Parts.{parts_of}
use Rattle.thorin_input.specs.View.{part}
use Rattle.thorin_join.specs.Builder.{with_input}
use Rattle.thorin_join.specs.State.{InProgress, Extends, held_units, adding}
use Rattle.thorin_builder.specs.declared.repeated.UnitlessInput.{UnitlessInput}

-- a package that another one became: of its byte order, with its strings and its units in front
pub record IsLater (made later : InProgress) : Type 0 where
  pub order : later.file.order ≡ made.file.order
  pub strings : take (length made.strings) later.strings ≡ made.strings
  pub more : List (DwarfObject × List ℕ)
  pub held : held_units later ≡ held_units made ++ more

-- the same where an input may have begun it
abbrev pub IsLaterBegun : Option InProgress → Option InProgress → Type 0
IsLaterBegun None later = Unit {0}
IsLaterBegun (Some made) None = ⊥
IsLaterBegun (Some made) (Some later) = IsLater made later

-- nothing of what it had is lost
abbrev pub ExtendsBegun : Option InProgress → Option InProgress → Type 0
ExtendsBegun None now = Unit {0}
ExtendsBegun (Some before) None = ⊥
ExtendsBegun (Some before) (Some now) = Extends before now

-- a package with these parts and these signatures of type units more
abbrev pub with_more : Contents → List ℕ → InProgress → InProgress
with_more parts differing made = record made {
  file = record made.file { contents = with_parts parts made.file.contents };
  differing = made.differing ++ differing;
}

-- an input adds these alone to a package, and to each that it becomes
pub record AddsAlone (bytes : List ℕ) (parts : Contents) (differing : List ℕ)
    (made : InProgress) : Type 0 where
  pub own : Option Encoding
  pub own_is : own_encoding bytes ≡ Ok own
  pub adds : (later : InProgress) → IsLater made later
      → with_input bytes (Some later) ≡ Ok (Some (with_more parts differing later))
  pub stays : (later : InProgress) → IsLater later (with_more parts differing later)

-- the same of what is remembered
abbrev pub AddsAgain : List ℕ → UnitlessInput → InProgress → Type 0
AddsAgain bytes again made = AddsAlone bytes (map part again.parts.items)
    (map (λ s. s.0) again.differing.items) made

-- and of a package that was begun
abbrev pub AddsAgainTo : List ℕ → UnitlessInput → Option InProgress → Type 0
AddsAgainTo bytes again None = ⊥
AddsAgainTo bytes again (Some made) = AddsAgain bytes again made

-- an input whose sections, encoding and indexes are known adds no unit and no string to a package,
-- and else what is remembered
pub record AddsNoUnit (source : Source) (again : UnitlessInput) (made : InProgress) : Type 0 where
  pub parts : parts_of source made.strings ≡ Ok (map part again.parts.items, made.strings)
  pub abbreviations : source.object.has_abbreviations ≡ true
  pub units : new_units (adding source made (map part again.parts.items))
      ≡ Ok (record { units = []; differing = map (λ s. s.0) again.differing.items })

-- bytes that may be read at a path add what is remembered
pub record IsTaken (offered : Result (List ℕ) IoError → Type 0) (again : UnitlessInput)
    (begun : Option InProgress) : Type 0 where
  pub bytes : List ℕ
  pub may : offered (Ok bytes)
  pub adds : AddsAgainTo bytes again begun

-- nothing more is remembered, or what bytes that were read at a path add
abbrev pub Remembers : List ℕ → Option InProgress → (path : List ℕ)
    → (old new : List (String Global × UnitlessInput)) → Type 0
Remembers bytes begun path old new = (new ≡ old) ⊎ ((key : String Global) × (again : UnitlessInput)
    × (string_bytes key ≡ path) × AddsAgainTo bytes again begun
    × (new ≡ insert_entry string_eq old key again))

-- so do bytes at each of these paths what is remembered there
abbrev pub AreTaken : (List ℕ → Result (List ℕ) IoError → Type 0)
    → List (String Global × UnitlessInput) → Option InProgress → Type 0
AreTaken offer [] begun = Unit {0}
AreTaken offer (e ∷ es) begun =
    IsTaken (offer (string_bytes e.0)) e.1 begun × AreTaken offer es begun
