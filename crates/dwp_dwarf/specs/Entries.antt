-- The root entry of a unit: its tag, and its attributes with their values, laid out one after the
-- other behind the entry's code (DWARF 5, 7.5.2 to 7.5.5).
use Rattle.std.specs.Prelude.{ℕ, List, [], ◌∷◌, Option, Some, None, Result, Ok, Err, ◌==◌}
use Rattle.std.specs.Prelude.{if◌then◌else◌}
use Rattle.std.specs.Option.{ok_or}
use Rattle.dwp_base.specs.Reading.{◌>>=◌}
use Rattle.dwp_bytes.specs.Input.{Input, byte_at, number_at, offset_at}
use Rattle.dwp_bytes.specs.Leb.{uleb_at}
use Rattle.dwp_bytes.specs.declared.encoding.Format.{Format}
use Rattle.dwp_bytes.specs.declared.encoding.Encoding.{Encoding}
use Rattle.dwp_bytes.specs.declared.error.ReadError.{ReadError}
use Rattle.dwp_bytes.specs.declared.error.ReadError.TheVariants.{UnknownCode}
use Rattle.dwp_dwarf.specs.Abbreviations.{Specification, Declaration, declaration}
use Rattle.dwp_units.specs.AbbreviationCodes.{root_code_at}
use Rattle.dwp_dwarf.specs.Forms.{value_at, named_form_at}
use Rattle.dwp_units.specs.Units.{Unit, listed}

-- an attribute: its name, its form, and the bytes of its value
pub record DebugAttribute : Type 0 where
  pub name : ℕ
  pub form : ℕ
  pub value : Input

-- an entry: its tag and its attributes
pub record DebugEntry : Type 0 where
  pub tag : ℕ
  pub attributes : List (Result DebugAttribute ReadError)

-- the next attribute; its form is the one that the form indirect names
unfoldable pub attribute_at : Encoding → Specification → Input
    → Result (DebugAttribute × Input) ReadError
attribute_at encoding s i = do
  form ← named_form_at s.form i
  value ← value_at encoding form.0 form.1
  Ok (record { name = s.name; form = form.0; value = value.0 }, value.1)

-- the attributes one after the other, up to the end or the first error
abbrev pub attributes : Encoding → List Specification → Input
    → List (Result DebugAttribute ReadError)
attributes encoding [] i = []
attributes encoding (s ∷ ss) i = listed (attribute_at encoding s i) (attributes encoding ss)

-- an entry whose values stand there
abbrev pub entry : Encoding → Declaration → Input → DebugEntry
entry encoding d i = record { tag = d.tag; attributes = attributes encoding d.specifications i }

-- an entry of a code in a table
unfoldable pub entry_at : Encoding → Input → ℕ × Input → Result DebugEntry ReadError
entry_at encoding table code = do
  found ← declaration code.0 table
  d ← ok_or found UnknownCode
  Ok (entry encoding d code.1)

-- a unit's root entry; None where it has none
abbrev pub root_of_code : Encoding → Input → Option (ℕ × Input)
    → Result (Option DebugEntry) ReadError
root_of_code encoding table None = Ok None
root_of_code encoding table (Some code) = entry_at encoding table code >>= λ root. Ok (Some root)

unfoldable pub root_at : Unit → Input → Result (Option DebugEntry) ReadError
root_at unit table = root_code_at unit.entries >>= root_of_code unit.encoding table

-- the number that was read
abbrev pub number_read : Result (ℕ × Input) ReadError → Option ℕ
number_read (Ok x) = Some x.0
number_read (Err e) = None

-- the unsigned number of a value of the forms data1, data2, data4, data8 and udata
unfoldable pub number_of : DebugAttribute → Option ℕ
number_of a =
    if a.form == 0x0b then number_read (byte_at a.value) else
    (if a.form == 0x05 then number_read (number_at 2 a.value) else
    (if a.form == 0x06 then number_read (number_at 4 a.value) else
    (if a.form == 0x07 then number_read (number_at 8 a.value) else
    (if a.form == 0x0f then number_read (uleb_at a.value) else None))))

-- the place in a section that a value of the forms sec_offset, data4 and data8 names
unfoldable pub place_of : Format → DebugAttribute → Option ℕ
place_of format a =
    if a.form == 0x17 then number_read (offset_at format a.value) else
    (if a.form == 0x06 then number_read (number_at 4 a.value) else
    (if a.form == 0x07 then number_read (number_at 8 a.value) else None))
