-- What `check` tells, as values, and how it is printed: in lines, or as JSON objects (RFC 8259).
use Rattle.std.specs.Prelude.{ℕ, List, ◌++◌, ◌==◌, codes, if◌then◌else◌}
use Rattle.std.specs.Fmt.{decimal}
use Rattle.dwp_table.specs.Objects.{identifier_of}
use Rattle.dwp_table.specs.declared.object.DwarfObject.{DwarfObject}
use Rattle.thorin_print.specs.Lines.{hex16, line_end}
use Rattle.thorin_print.specs.Spelled.{spelled}
use Rattle.thorin_print.specs.declared.form.Form.{Form}
use Rattle.thorin_print.specs.declared.form.Form.TheVariants.{Lines, Json}
use Rattle.thorin_find.specs.Lines.{json_unit, short_kind}
use Rattle.thorin_check.specs.declared.faults.Fault.{Fault}
use Rattle.thorin_check.specs.declared.faults.Fault.TheVariants as faults

-- what is wrong: with a unit, with the package apart from a unit, with an executable
pub data FaultValue : Type 0 where
  of_unit : (unit : DwarfObject) (what : List ℕ) → FaultValue
  of_package : (what : List ℕ) → FaultValue
  of_executable : (name what : List ℕ) → FaultValue

-- the value of one at hand
abbrev pub value_of : Fault → FaultValue
value_of (faults.Unit object what) = of_unit object what.now
value_of (faults.Package what) = of_package what.now
value_of (faults.Executable name what) = of_executable name.now what.now

-- ---- a fault

-- on a line
abbrev pub fault_line : FaultValue → List ℕ
fault_line (of_unit unit what) =
    short_kind unit ++ (codes " 0x" ++ (hex16 (identifier_of unit)
    ++ (codes ": " ++ (what ++ line_end))))
fault_line (of_package what) = what ++ line_end
fault_line (of_executable name what) = name ++ (codes ": " ++ (what ++ line_end))

-- in an object, whose strings are escaped: up to the end of its last string, and all of it
abbrev pub fault_members : FaultValue → List ℕ
fault_members (of_unit unit what) =
    json_unit unit ++ (codes "\",\"fault\":\"" ++ spelled Json what)
fault_members (of_package what) = codes "{\"fault\":\"" ++ spelled Json what
fault_members (of_executable name what) =
    codes "{\"fault\":\"" ++ (spelled Json name ++ (codes ": " ++ spelled Json what))

abbrev pub fault_object : FaultValue → List ℕ
fault_object fault = fault_members fault ++ codes "\"}\n"

unfoldable pub fault_text : Form → FaultValue → List ℕ
fault_text Lines fault = fault_line fault
fault_text Json fault = fault_object fault

-- ---- the totals

-- a number of things of a name: `1 unit`, `2 units`
abbrev pub count_text : ℕ → (name : List ℕ) → List ℕ
count_text n name =
    if n == 1 then codes "1 " ++ name else decimal n ++ (codes " " ++ (name ++ codes "s"))

abbrev pub counts_line : (units faults : ℕ) → List ℕ
counts_line units faults = count_text units (codes "unit")
    ++ (codes ", " ++ (count_text faults (codes "fault") ++ line_end))

abbrev pub counts_object : (units faults : ℕ) → List ℕ
counts_object units faults = codes "{\"units\":" ++ (decimal units
    ++ (codes ",\"faults\":" ++ (decimal faults ++ (codes "}" ++ line_end))))

unfoldable pub totals_text : Form → (units faults : ℕ) → List ℕ
totals_text Lines units faults = counts_line units faults
totals_text Json units faults = counts_object units faults
