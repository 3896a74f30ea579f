-- The code of an abbreviation, as it stands before a declaration and an entry (DWARF 5, 7.5.2 and
-- 7.5.3).
use Rattle.std.specs.Prelude.{ℕ, Option, Some, None, Result, Ok, length, ◌==◌, if◌then◌else◌}
use Rattle.dwp_base.specs.Reading.{◌>>=◌}
use Rattle.dwp_bytes.specs.Input.{Input}
use Rattle.dwp_bytes.specs.Leb.{uleb_at}
use Rattle.dwp_bytes.specs.declared.error.ReadError.{ReadError}

-- a code; at the end of the bytes it is 0, which stands for none
unfoldable pub code_at : Input → Result (ℕ × Input) ReadError
code_at i = if length i.bytes == 0 then Ok (0, i) else uleb_at i

-- a unit's root code and what comes behind it; None where no byte is left behind the header, or the
-- code is 0
unfoldable pub root_code_at : Input → Result (Option (ℕ × Input)) ReadError
root_code_at i = do
  code ← code_at i
  if code.0 == 0 then Ok None else Ok (Some code)

-- a root code, where a unit has one
abbrev pub root_code_of : {R : Type 0} → (R → Input) → Option (ℕ × R) → Option (ℕ × Input)
root_code_of input (Some x) = Some (x.0, input x.1)
root_code_of input None = None
