-- What the readers of attributes show.
use Rattle.std.specs.Prelude.{List, [], Option, Some, None, Result, Ok, Err, if◌then◌else◌}
use Rattle.dwp_bytes.specs.Input.{Input}
use Rattle.dwp_bytes.specs.declared.error.ReadError.{ReadError}
use Rattle.dwp_dwarf.specs.Abbreviations.{pairs_in}
use Rattle.dwp_dwarf.specs.Entries.{DebugAttribute, DebugEntry, attributes}
use Rattle.dwp_dwarf.specs.declared.entry.Attribute.{Attribute}
use Rattle.dwp_dwarf.specs.declared.entry.Attributes.{Attributes}
use Rattle.dwp_dwarf.specs.declared.entry.RootEntry.{RootEntry}

-- an attribute as it was read from an input
abbrev pub attribute_of : {R : Type 0} → (R → Input) → Attribute R → DebugAttribute
attribute_of input a = record { name = a.name; form = a.form; value = input a.value }

-- an item of an iterator over attributes
abbrev pub attribute_seen : {R : Type 0} → (R → Input) → Result (Attribute R) ReadError
    → Result DebugAttribute ReadError
attribute_seen input (Ok a) = Ok (attribute_of input a)
attribute_seen input (Err e) = Err e

-- what that iterator has left: nothing after an error
abbrev pub attributes_left : {R : Type 0} → (R → Input) → Attributes R
    → List (Result DebugAttribute ReadError)
attributes_left input a = if a.ended then []
    else attributes a.encoding (pairs_in (input a.specifications)) (input a.values)

-- an entry as it was read from an input
abbrev pub entry_of : {R : Type 0} → (R → Input) → RootEntry R → DebugEntry
entry_of input e = record { tag = e.tag; attributes = attributes_left input e.attributes }

-- a root entry, where a unit has one
abbrev pub root_of : {R : Type 0} → (R → Input) → Option (RootEntry R) → Option DebugEntry
root_of input (Some e) = Some (entry_of input e)
root_of input None = None
