-- Tables of abbreviations (DWARF 5, 7.5.3) that overlap: what tables say that go on at a place of
-- the section is remembered by the place. From a declaration on they all go on alike.
use Rattle.std.specs.Prelude.{◌≡◌, ◌≤◌, ◌+◌, ◌-◌, ℕ, List, length, Option, Some, None, Result, Ok}
use Rattle.std.specs.Prelude.{Err, IfSome, option_map}
use Rattle.std.specs.Ordering.{nat_cmp}
use Rattle.std.specs.BTreeMap.{get}
use Rattle.dwp_base.specs.Reading.{◌>>=◌}
use Rattle.dwp_bytes.specs.Input.{Input, front}
use Rattle.dwp_bytes.specs.declared.error.ReadError.{ReadError}
use Rattle.dwp_dwarf.specs.Abbreviations.{Declaration, declaration}
use Rattle.dwp_dwarf.specs.Grammar.{next_at}
use Rattle.dwp_dwarf.specs.Needed.{HasLists}
use Rattle.dwp_dwarf.specs.Offsets.{from_at}
use Rattle.dwp_dwarf.specs.Versions.{value_in}
use Rattle.dwp_dwarf.specs.declared.chains.Chains.{Chains}
use Rattle.dwp_dwarf.specs.declared.chains.Place.{Place}
use Rattle.dwp_dwarf.specs.declared.versions.Node.{Node}

-- what stands so many bytes before the end of a section
abbrev pub from_end : ℕ → Input → Result Input ReadError
from_end left section = from_at (length section.bytes - left) section

-- what a table without the code says, by the error at its end
abbrev pub absent_by : Option ReadError → Result (Option Declaration) ReadError
absent_by None = Ok None
absent_by (Some e) = Err e

-- a declaration that stands so many bytes before the end of a section
pub record StandsAt (section : Input) (left : ℕ) (declared : Declaration) : Type 0 where
  pub start : Input
  pub is : from_end left section ≡ Ok start
  pub code : ℕ
  pub behind : Input
  pub next : next_at start ≡ Ok (Some ((code, declared), behind))

-- the declaration that stands so many bytes before the end of a section, if one does
abbrev pub said_at : Input → ℕ → Result (Option Declaration) ReadError
said_at section left = from_end left section >>= λ start. next_at start >>= λ next.
    Ok (option_map (λ x. x.0.1) next)

-- the declaration at a place is what is said
pub record DeclaredAt (section : Input) (left : ℕ) (said : Result (Option Declaration) ReadError) :
    Type 0 where
  pub declared : Declaration
  pub stands : StandsAt section left declared
  pub says : said ≡ Ok (Some declared)

-- what is said is the declaration at the place that was found, or that there is none
abbrev pub SaidBy : Input → Option ReadError → Option ℕ → Result (Option Declaration) ReadError
    → Type 0
SaidBy section error None said = said ≡ absent_by error
SaidBy section error (Some left) said = DeclaredAt section left said

-- a table has a declaration of a code
abbrev pub IsDeclared : ℕ → Input → Type 0
IsDeclared code table = (declared : Declaration) × (declaration code table ≡ Ok (Some declared))

-- a table says the same of a code where at most so many bytes of its end are missing
abbrev pub StaysBefore : Input → ℕ → ℕ → Type 0
StaysBefore table code left = (n : ℕ) → length table.bytes ≤ n + left
    → declaration code (front n table) ≡ declaration code table

-- a table has a declaration of a code, and needs none of so many bytes at its end for it
abbrev pub EndsBefore : Input → ℕ → ℕ → Type 0
EndsBefore table code left = IsDeclared code table × StaysBefore table code left

-- what a table says of a code needs none of the bytes behind the declaration at a place, which lie
-- in the table
abbrev pub StaysBehind : Input → Input → ℕ → ℕ → Type 0
StaysBehind section table code first =
    (declared : Declaration) → (stands : StandsAt section first declared)
    → (length stands.behind.bytes ≤ length table.bytes)
    × StaysBefore table code (length stands.behind.bytes)

-- what is remembered of a place says of each code what the table says that begins there, and that
-- its first declaration is all that this needs; and where the declaration at the place ends
pub record RemembersPlace (section : Input) (nodes : List Node) (left : ℕ) (place : Place) :
    Type 0 where
  pub table : Input
  pub is : from_end left section ≡ Ok table
  pub fits : place.version ≤ length nodes
  pub same : (code : ℕ) → SaidBy section place.error (value_in nodes place.version code)
      (declaration code table)
  pub ends : (code : ℕ) → IfSome (value_in nodes place.version code)
      (StaysBehind section table code)
  pub behind : (next : (ℕ × Declaration) × Input) → next_at table ≡ Ok (Some next)
      → place.behind ≡ length next.1.bytes

-- each place that is remembered is remembered so
abbrev pub RemembersPlaces : Input → Chains → Type 0
RemembersPlaces section chains = (left : ℕ) → IfSome (get nat_cmp chains.places left)
    (RemembersPlace section chains.firsts.nodes.items left)

-- all that is remembered of a section by places
pub record RemembersChains (section : Input) (chains : Chains) : Type 0 where
  pub places : RemembersPlaces section chains
  pub lists : HasLists (said_at section) chains.lists

-- what the table at an offset says of a code is what is said of a place
pub record FirstAt (section : Input) (offset code left : ℕ) : Type 0 where
  pub table : Input
  pub is : from_at offset section ≡ Ok table
  pub says : said_at section left ≡ declaration code table
