-- Where the values of a root entry lie in the bytes of its unit: behind the header and the entry's
-- code, one after the other (DWARF 5, 7.5.2 to 7.5.5).
use Rattle.std.specs.Prelude.{◌≡◌, ◌≢◌, ◌≤◌, ℕ, ◌+◌, List, [], ◌∷◌, ◌++◌, length, map, Some, Result}
use Rattle.std.specs.Prelude.{Ok, ⊤}
use Rattle.dwp_bytes.specs.Input.{Input, front, after}
use Rattle.dwp_bytes.specs.declared.error.ReadError.{ReadError}
use Rattle.dwp_units.specs.declared.unit.UnitSection.{UnitSection}
use Rattle.dwp_dwarf.specs.Abbreviations.{Specification, Declaration, declaration}
use Rattle.dwp_dwarf.specs.Entries.{DebugAttribute, DebugEntry, root_at}
use Rattle.dwp_units.specs.Units.{Unit, unit_at}

-- an attribute's value lies first, behind the names of its form, and the rest behind it; no name
-- stands there but for the form indirect, 0x16
pub record LiesFirst (s : Specification) (i : Input) (a : DebugAttribute)
    (rest : Input) : Type 0 where
  pub names : ℕ
  pub size : ℕ
  pub fits : names + size ≤ length i.bytes
  pub name : a.name ≡ s.name
  pub direct : s.form ≢ 0x16 → (names ≡ 0) × (a.form ≡ s.form)
  pub value : a.value ≡ front size (after names i)
  pub left : rest ≡ after (names + size) i

-- the values of the first attributes of a list lie one after the other
abbrev pub ValuesLie : List DebugAttribute → List Specification → Input → Type 0
ValuesLie [] ss i = ⊤
ValuesLie (a ∷ more) [] i = ⊥
ValuesLie (a ∷ more) (s ∷ ss) i = (rest : Input) × LiesFirst s i a rest × ValuesLie more ss rest

-- attributes that an entry begins with lie in the bytes of its unit, as the abbreviation of its
-- code lists them
pub record LiesInUnit (table : Input) (u : Unit) (e : DebugEntry)
    (read : List DebugAttribute) : Type 0 where
  pub code : ℕ
  pub declared : Declaration
  pub start : ℕ
  pub fits : start ≤ length u.whole.bytes
  pub is : declaration code table ≡ Ok (Some declared)
  pub tag : e.tag ≡ declared.tag
  pub lie : ValuesLie read declared.specifications (after start u.whole)

-- the attributes that a root entry begins with, up to an error or the end, lie in its unit
abbrev pub RootValuesLie : Type 0
RootValuesLie = (section : UnitSection) (i rest table : Input) (u : Unit) (e : DebugEntry)
    (read : List DebugAttribute) (others : List (Result DebugAttribute ReadError))
    → unit_at section i ≡ Ok (u, rest) → root_at u table ≡ Ok (Some e)
    → e.attributes ≡ map Ok read ++ others → LiesInUnit table u e read
