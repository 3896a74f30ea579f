-- Which attributes of a declaration tell the numbers of an entry and what names its split object:
-- those whose values have bytes, and of each name that may name the object the first.
use Rattle.std.specs.Prelude.{◌≡◌, ℕ, List, [], ◌∷◌, map, Bool, true, false, ◌==◌, ◌&&◌, ◌||◌}
use Rattle.std.specs.Prelude.{if◌then◌else◌, Option, Some, Result, Ok, IfSome, Vec}
use Rattle.std.specs.declared.alloc.Global.{Global}
use Rattle.std.specs.Ordering.{nat_cmp}
use Rattle.std.specs.BTreeMap.{get}
use Rattle.dwp_bytes.specs.declared.error.ReadError.{ReadError}
use Rattle.dwp_dwarf.specs.Abbreviations.{Declaration, Specification}
use Rattle.dwp_dwarf.specs.Declarations.{specification_of}
use Rattle.dwp_dwarf.specs.Numbers.{has_bytes}
use Rattle.dwp_dwarf.specs.Split.{DW_AT_comp_dir, DW_AT_dwo_name, DW_AT_GNU_dwo_name}
use Rattle.dwp_dwarf.specs.declared.abbrev.AttributeSpecification.{AttributeSpecification}
use Rattle.dwp_dwarf.specs.declared.needed.NeededLists.{NeededLists}
use Rattle.dwp_dwarf.specs.declared.needed.UnmetNames.{UnmetNames}

-- none of the names was met
abbrev pub none_met : UnmetNames
none_met = record { dwo_name = true; gnu_dwo_name = true; comp_dir = true }

-- a name is one of them, and wasn't met
abbrev pub is_unmet : UnmetNames → ℕ → Bool
is_unmet unmet name = (name == DW_AT_dwo_name && unmet.dwo_name)
    || ((name == DW_AT_GNU_dwo_name && unmet.gnu_dwo_name)
    || (name == DW_AT_comp_dir && unmet.comp_dir))

-- those that weren't met, once a name was
abbrev pub met : UnmetNames → ℕ → UnmetNames
met unmet name = record {
  dwo_name = if name == DW_AT_dwo_name then false else unmet.dwo_name;
  gnu_dwo_name = if name == DW_AT_GNU_dwo_name then false else unmet.gnu_dwo_name;
  comp_dir = if name == DW_AT_comp_dir then false else unmet.comp_dir;
}

-- an attribute's value has bytes, or it is the first of such a name
abbrev pub is_needed : UnmetNames → Specification → Bool
is_needed unmet s = has_bytes s || is_unmet unmet s.name

-- the attributes that are needed
abbrev pub needed : UnmetNames → List Specification → List Specification
needed unmet [] = []
needed unmet (s ∷ ss) = if is_needed unmet s then s ∷ needed (met unmet s.name) ss
    else needed (met unmet s.name) ss

-- a list of the attributes that are needed of the declaration that is said to be a key's
pub record ListsNeeded (said : ℕ → Result (Option Declaration) ReadError) (key : ℕ)
    (list : Vec AttributeSpecification Global) : Type 0 where
  pub declared : Declaration
  pub is : said key ≡ Ok (Some declared)
  pub listed : map specification_of list.items ≡ needed none_met declared.specifications

-- each list is such a list of its key
abbrev pub HasLists : (ℕ → Result (Option Declaration) ReadError) → NeededLists → Type 0
HasLists said lists = (key : ℕ) → IfSome (get nat_cmp lists.by_key key) (ListsNeeded said key)
